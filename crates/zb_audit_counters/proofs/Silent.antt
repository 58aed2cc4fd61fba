-- Lines that say nothing to a node change nothing of what is kept about it.
use Rattle.std.proofs.Common.{◌≡◌, ℕ, [], Bool, true, false, not, ◌&&◌, Option, Some, None, refl, ap, ◌∙◌, bytes_eq}
use Rattle.std.specs.Option.{is_some}
use Rattle.std.specs.Prelude.{if◌then◌else◌}
use Rattle.zb_base.specs.declared.key.Key.{Key}
use Rattle.zb_base.specs.declared.label.Layer.{Layer}
use Rattle.zb_base.specs.declared.label.Layer.TheVariants.{Nwk, Aps}
use Rattle.zb_audit_names.specs.Naming.{speaker}
use Rattle.zb_model.specs.Data.{Bytes}
use Rattle.zb_audit_counters.specs.Counting.{accepted_in, activates, seals_at, starts}
use Rattle.zb_audit_counters.specs.Readings.{active_in, boots, counter_in, floor_in, is_key, limit_in, reserve_in, same_layer, sealed_in, starts_key}
use Rattle.zb_audit_counters.specs.Standing.{Hears, active_by, active_said, counts}
use Rattle.zb_audit_counters.specs.declared.counters.Counters.{Counters}
use Rattle.zb_trace.specs.declared.line.Line.{Line}
use Rattle.zb_trace.specs.declared.line.Line.TheVariants as line

-- Whether a line says something about the counters of the node of this name.
abbrev names : Bytes → Line → Bool
names n (line.Counter m layer value) = bytes_eq m.bytes n
names n (line.GivenNet m key sequence) = bytes_eq m.bytes n
names n (line.Active e m k) = bytes_eq m.bytes n
names n (line.Start e m k value) = bytes_eq m.bytes n
names n (line.Reserve e m layer value) = bytes_eq m.bytes n
names n (line.Seal e m t) = bytes_eq m.bytes n
names n (line.Accept e m t) = bytes_eq m.bytes n
names n (line.Floor e m layer k s value) = bytes_eq m.bytes n
names n (line.Boot e m) = bytes_eq m.bytes n
names n _ = false

-- What a line says, if it says nothing to the node.
record IsSilent (n : Bytes) (l : Line) : Type 0 where
  active : (b : Bool) → active_said n b l ≡ None
  activated : is_some (active_in n l) ≡ false
  booted : boots n l ≡ false
  counter : (ly : Layer) → counter_in n ly l ≡ None
  reserve : (ly : Layer) → reserve_in n ly l ≡ None
  seals : (ly : Layer) → seals_at n ly l ≡ false
  sealed : (ly : Layer) (key : Option Bytes) → sealed_in n ly key l ≡ None
  limit : (key : Bytes) (was : Bool) → limit_in n key was l ≡ None
  started : (key : Bytes) → starts_key n key l ≡ false
  start : (key : Bytes) → starts n key l ≡ false
  activates : (key : Bytes) → activates n key l ≡ false
  floor : (ly : Layer) (key : Bytes) (sender : ℕ) → floor_in n ly key sender l ≡ None
  accepted : (ly : Layer) (key : Bytes) (sender : ℕ) → accepted_in n ly key sender l ≡ []

given_apart : (same : Bool) (key : Key) → same ≡ false → (b : Bool) → (if not b && same then Some (Some key)
    else None) ≡ None
given_apart same key h true = refl
given_apart same key h false = rw h refl

reserve_apart : (same : Bool) → same ≡ false → (was at : Bool) (value : ℕ) → (if was && (same && at) then Some value
    else None) ≡ None
reserve_apart same h true at value = rw h refl
reserve_apart same h false at value = refl

silent : (n : Bytes) (l : Line) → names n l ≡ false → IsSilent n l
silent n (line.Counter m layer value) h = record {
  active = λ b. refl;
  activated = refl;
  booted = refl;
  counter = λ ly. rw h refl;
  reserve = λ ly. refl;
  seals = λ ly. refl;
  sealed = λ ly key. refl;
  limit = λ key was. refl;
  started = λ key. refl;
  start = λ key. refl;
  activates = λ key. refl;
  floor = λ ly key sender. refl;
  accepted = λ ly key sender. refl;
}
silent n (line.GivenNet m key sequence) h = record {
  active = given_apart (bytes_eq m.bytes n) key h;
  activated = refl;
  booted = refl;
  counter = λ ly. refl;
  reserve = λ ly. refl;
  seals = λ ly. refl;
  sealed = λ ly key. refl;
  limit = λ key was. refl;
  started = λ k. rw h refl;
  start = λ key. refl;
  activates = λ key. refl;
  floor = λ ly key sender. refl;
  accepted = λ ly key sender. refl;
}
silent n (line.Active e m k) h = record {
  active = λ b. rw h refl;
  activated = rw h refl;
  booted = refl;
  counter = λ ly. refl;
  reserve = λ ly. refl;
  seals = λ ly. refl;
  sealed = λ ly key. refl;
  limit = λ key was. refl;
  started = λ key. refl;
  start = λ key. refl;
  activates = λ key. rw h refl;
  floor = λ ly key sender. refl;
  accepted = λ ly key sender. refl;
}
silent n (line.Start e m k value) h = record {
  active = λ b. refl;
  activated = refl;
  booted = refl;
  counter = λ ly. refl;
  reserve = λ ly. refl;
  seals = λ ly. refl;
  sealed = λ ly key. refl;
  limit = λ key was. rw h refl;
  started = λ key. rw h refl;
  start = λ key. rw h refl;
  activates = λ key. refl;
  floor = λ ly key sender. refl;
  accepted = λ ly key sender. refl;
}
silent n (line.Reserve e m layer value) h = record {
  active = λ b. refl;
  activated = refl;
  booted = refl;
  counter = λ ly. refl;
  reserve = λ ly. rw h refl;
  seals = λ ly. refl;
  sealed = λ ly key. refl;
  limit = λ key was. reserve_apart (bytes_eq m.bytes n) h was (same_layer layer Nwk) value;
  started = λ key. refl;
  start = λ key. refl;
  activates = λ key. refl;
  floor = λ ly key sender. refl;
  accepted = λ ly key sender. refl;
}
silent n (line.Seal e m t) h = record {
  active = λ b. refl;
  activated = refl;
  booted = refl;
  counter = λ ly. refl;
  reserve = λ ly. refl;
  seals = λ ly. rw h refl;
  sealed = λ ly key. rw h refl;
  limit = λ key was. refl;
  started = λ key. refl;
  start = λ key. refl;
  activates = λ key. refl;
  floor = λ ly key sender. refl;
  accepted = λ ly key sender. refl;
}
silent n (line.Accept e m t) h = record {
  active = λ b. refl;
  activated = refl;
  booted = refl;
  counter = λ ly. refl;
  reserve = λ ly. refl;
  seals = λ ly. refl;
  sealed = λ ly key. refl;
  limit = λ key was. refl;
  started = λ key. refl;
  start = λ key. refl;
  activates = λ key. refl;
  floor = λ ly key sender. refl;
  accepted = λ ly key sender. rw h refl;
}
silent n (line.Floor e m layer k s value) h = record {
  active = λ b. refl;
  activated = refl;
  booted = refl;
  counter = λ ly. refl;
  reserve = λ ly. refl;
  seals = λ ly. refl;
  sealed = λ ly key. refl;
  limit = λ key was. refl;
  started = λ key. refl;
  start = λ key. refl;
  activates = λ key. refl;
  floor = λ ly key sender. rw h refl;
  accepted = λ ly key sender. refl;
}
silent n (line.Boot e m) h = record {
  active = λ b. refl;
  activated = refl;
  booted = h;
  counter = λ ly. refl;
  reserve = λ ly. refl;
  seals = λ ly. refl;
  sealed = λ ly key. refl;
  limit = λ key was. refl;
  started = λ key. refl;
  start = λ key. refl;
  activates = λ key. refl;
  floor = λ ly key sender. refl;
  accepted = λ ly key sender. refl;
}
silent n _ h = record {
  active = λ b. refl;
  activated = refl;
  booted = refl;
  counter = λ ly. refl;
  reserve = λ ly. refl;
  seals = λ ly. refl;
  sealed = λ ly key. refl;
  limit = λ key was. refl;
  started = λ key. refl;
  start = λ key. refl;
  activates = λ key. refl;
  floor = λ ly key sender. refl;
  accepted = λ ly key sender. refl;
}

unnamed : (n : Bytes) (l : Line) → counts l ≡ false → names n l ≡ false
unnamed n (line.Counter m layer value) h = cc
unnamed n (line.GivenNet m key sequence) h = cc
unnamed n (line.Active e m k) h = cc
unnamed n (line.Start e m k value) h = cc
unnamed n (line.Reserve e m layer value) h = cc
unnamed n (line.Seal e m t) h = cc
unnamed n (line.Accept e m t) h = cc
unnamed n (line.Floor e m layer k s value) h = cc
unnamed n (line.Boot e m) h = cc
unnamed n _ h = refl

unsome : (a b : Bytes) → Some a ≡ Some b → a ≡ b
unsome a b e = cc

of_another : (n : Bytes) (l : Line) (m : Bytes) → speaker l ≡ Some m → bytes_eq m n ≡ false → names n l ≡ false
unfolding speaker
of_another n (line.Counter x layer value) m says h = ap (λ (b : Bytes). bytes_eq b n) (unsome x.bytes m says) ∙ h
of_another n (line.GivenNet x key sequence) m says h = ap (λ (b : Bytes). bytes_eq b n) (unsome x.bytes m says) ∙ h
of_another n (line.Active e x k) m says h = ap (λ (b : Bytes). bytes_eq b n) (unsome x.bytes m says) ∙ h
of_another n (line.Start e x k value) m says h = ap (λ (b : Bytes). bytes_eq b n) (unsome x.bytes m says) ∙ h
of_another n (line.Reserve e x layer value) m says h = ap (λ (b : Bytes). bytes_eq b n) (unsome x.bytes m says) ∙ h
of_another n (line.Seal e x t) m says h = ap (λ (b : Bytes). bytes_eq b n) (unsome x.bytes m says) ∙ h
of_another n (line.Accept e x t) m says h = ap (λ (b : Bytes). bytes_eq b n) (unsome x.bytes m says) ∙ h
of_another n (line.Floor e x layer k s value) m says h = ap (λ (b : Bytes). bytes_eq b n) (unsome x.bytes m says) ∙ h
of_another n (line.Boot e x) m says h = ap (λ (b : Bytes). bytes_eq b n) (unsome x.bytes m says) ∙ h
of_another n _ m says h = refl

stays : (g number : ℕ) (n : Bytes) (l : Line) (c : Counters) → IsSilent n l → Hears g number n l c c
stays g number n l c none = record {
  active = rw (none.active c.activated) refl;
  activated = rw none.activated refl;
  booted = rw none.booted refl;
  layers = λ ly. rw (none.counter ly, none.reserve ly, none.seals ly) refl;
  outgoing = rw (none.reserve Aps, none.sealed Aps None) refl;
  keys = λ key. rw (
    none.limit key.0 (is_key (active_by g c) key.0),
    none.sealed Nwk (Some key.0),
    none.started key.0,
    none.start key.0,
    none.activates key.0,
  ) refl;
  floors = λ s. rw (none.accepted s.layer s.key.0 s.eui.0, none.floor s.layer s.key.0 s.eui.0) refl;
}

pub passed_over : (g number : ℕ) (n : Bytes) (l : Line) (c : Counters) → counts l ≡ false → Hears g number n l c c
passed_over g number n l c h = stays g number n l c (silent n l (unnamed n l h))

pub not_named : (g number : ℕ) (n : Bytes) (l : Line) (c : Counters) (m : Bytes) → speaker l ≡ Some m → bytes_eq m n
    ≡ false → Hears g number n l c c
not_named g number n l c m s h = stays g number n l c (silent n l (of_another n l m s h))
