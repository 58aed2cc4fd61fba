-- What each kind of line changes about the counters of its node.
use Rattle.std.proofs.Common.{◌≡◌, ℕ, [], Bool, true, false, ◌&&◌, Option, Some, None, refl, ap, sym, subst, ◌∙◌, bytes_eq}
use Rattle.std.specs.BTreeMap.{BTreeMap}
use Rattle.std.specs.Prelude.{if◌then◌else◌, Result, Ok, Err, OnOk}
use Rattle.std.specs.declared.alloc.AllocError.{AllocError}
use Rattle.arrayvec.specs.ArrayString.{ArrayString}
use Rattle.zb_base.specs.declared.key.Key.{Key}
use Rattle.zb_base.specs.declared.label.Layer.{Layer}
use Rattle.zb_base.specs.declared.label.Layer.TheVariants.{Nwk, Aps}
use Rattle.zb_audit_names.specs.Naming.{speaker}
use Rattle.zb_model.specs.Data.{Bytes}
use Rattle.zb_audit_counters.specs.Readings.{same_layer}
use Rattle.zb_audit_counters.specs.Standing.{AreFresh, Hears, IsOfSender, PutsKey, floor_of, fresh_layer, fresh_outgoing, hear, heard_layer, heard_outgoing, key_in, layer_of, mark_if, never_set, sender_of, set_in, true_if}
use Rattle.zb_audit_counters.specs.declared.counters.Counters.{Counters}
use Rattle.zb_audit_counters.specs.declared.floor.Sender.{Sender}
use Rattle.zb_audit_counters.specs.declared.judgement.Judgement.{Judgement}
use Rattle.zb_audit_counters.specs.declared.key.KeyCounters.{KeyCounters}
use Rattle.zb_seal.specs.declared.term.Term.{Term}
use Rattle.zb_trace.specs.declared.line.Line.{Line}
use Rattle.zb_trace.specs.declared.line.Line.TheVariants as line
use Rattle.zb_audit_counters.proofs.Puts.{bytes_turned, itself, key_changed}

-- No line

pub fresh_counters : (c : Counters) → c.active ≡ never_set None → c.activated ≡ false → c.booted ≡ never_set 0 → c.nwk
    ≡ fresh_layer → c.aps ≡ fresh_layer → c.outgoing ≡ fresh_outgoing
    → c.keys.entries ≡ [] → c.floors.entries ≡ [] → AreFresh c
unfolding key_in floor_of
fresh_counters c active activated booted nwk aps outgoing no_key no_floor = record {
  active = active;
  activated = activated;
  booted = booted;
  layers = at;
  outgoing = outgoing;
  keys = λ q. rw no_key refl;
  floors = λ s. rw no_floor refl;
}
  where
    at : (l : Layer) → layer_of c l ≡ fresh_layer
    at Nwk = nwk
    at Aps = aps

-- Seal.

sealed_if : (g boot counter : ℕ) (b : Bool) (k : KeyCounters) (said : Option ℕ) → said
    ≡ (if b then Some counter else None)
    → (if b
    then record k {
      outgoing =
          record {
            limit = k.outgoing.limit;
            sealed = set_in g (Some (record { counter = counter; boot = boot }))
                k.outgoing.sealed;
          };
    } else k)
    ≡ record {
      outgoing = heard_outgoing g boot None said k.outgoing;
      started = k.started;
      start = k.start;
      active = k.active;
    }
sealed_if g boot counter true k said e = rw e refl
sealed_if g boot counter false k said e = rw e refl

pub seal_heard : (g number e : ℕ) (m : ArrayString) (t : Term) (base : Key) (counter : ℕ) (c : Counters)
    (keys : BTreeMap Key KeyCounters) → t.layer ≡ Nwk → t.base ≡ base → t.counter ≡ counter
    → (k : KeyCounters) → k
    ≡ record (key_in c.keys base) {
      outgoing =
          record {
            limit = (key_in c.keys base).outgoing.limit;
            sealed = set_in g (Some (record { counter = counter; boot = c.booted.latest }))
                (key_in c.keys base).outgoing.sealed;
          };
    }
    → PutsKey c.keys keys base k
    → Hears g number m.bytes (line.Seal e m t) c
    (record c { nwk = record { declared = c.nwk.declared; reserved = c.nwk.reserved; sealed = g }; keys = keys })
seal_heard g number e m t base counter c keys layers bases counters k is puts = record {
  active = refl;
  activated = refl;
  booted = refl;
  layers = at;
  outgoing = rw (itself m.bytes, layers) refl;
  keys = λ q.
      key_changed c.keys keys base
      (λ (k : KeyCounters). record k {
        outgoing =
            record {
              limit = k.outgoing.limit;
              sealed = set_in g (Some (record { counter = counter; boot = c.booted.latest })) k.outgoing.sealed;
            };
      })
      (subst (PutsKey c.keys keys base) is puts) q
      ∙ sealed_if g c.booted.latest counter (bytes_eq base.0 q.0) (key_in c.keys q)
      (if bytes_eq m.bytes m.bytes && (same_layer t.layer Nwk && bytes_eq q.0 t.base.0) then Some t.counter
      else None)
      (rw (itself m.bytes, layers, bases, counters, bytes_turned q.0 base.0) refl);
  floors = λ s. refl;
}
  where
    at : (l : Layer)
        → layer_of
        (record c { nwk = record { declared = c.nwk.declared; reserved = c.nwk.reserved; sealed = g }; keys = keys })
        l ≡ heard_layer g m.bytes l (line.Seal e m t) (layer_of c l)
    at Nwk = rw (itself m.bytes, layers) refl
    at Aps = rw (itself m.bytes, layers) refl

pub seal_here : (g number : ℕ) (t : Term) (layer : Layer) (result : Result Judgement AllocError) (old new : Counters)
    → t.layer ≡ layer
    → OnOk result ((number e : ℕ) (m : ArrayString) (s : Term) → s.layer ≡ layer → s.base ≡ t.base → s.counter
    ≡ t.counter → Hears g number m.bytes (line.Seal e m s) old new)
    → OnOk result ((number e : ℕ) (m : ArrayString) → Hears g number m.bytes (line.Seal e m t) old new)
seal_here g number t layer (Ok j) old new is heard = λ number e m. heard number e m t is refl refl
seal_here g number t layer (Err x) old new is heard = tt

-- Start.

started_if : (g boot value : ℕ) (b starts : Bool) (k : KeyCounters) (said : Option ℕ) → starts ≡ b → said
    ≡ (if b then Some value else None)
    → (if b
    then record k {
      outgoing = record { limit = set_in g (Some value) k.outgoing.limit; sealed = k.outgoing.sealed };
      started = set_in g true k.started;
      start = g;
    } else k)
    ≡ record {
      outgoing = heard_outgoing g boot said None k.outgoing;
      started = hear g (true_if starts) k.started;
      start = mark_if g starts k.start;
      active = k.active;
    }
started_if g boot value true starts k said e f = rw (e, f) refl
started_if g boot value false starts k said e f = rw (e, f) refl

pub start_heard : (g number e : ℕ) (m : ArrayString) (key : Key) (value : ℕ) (c : Counters)
    (keys : BTreeMap Key KeyCounters)
    → (k : KeyCounters)
    → k ≡ record (key_in c.keys key) {
      outgoing =
          record {
            limit = set_in g (Some value) (key_in c.keys key).outgoing.limit;
            sealed = (key_in c.keys key).outgoing.sealed;
          };
      started = set_in g true (key_in c.keys key).started;
      start = g;
    }
    → PutsKey c.keys keys key k → Hears g number m.bytes (line.Start e m key value) c (record c { keys = keys })
start_heard g number e m key value c keys k is puts = record {
  active = refl;
  activated = refl;
  booted = refl;
  layers = at;
  outgoing = refl;
  keys = λ q.
      key_changed c.keys keys key
      (λ (k : KeyCounters). record k {
        outgoing = record { limit = set_in g (Some value) k.outgoing.limit; sealed = k.outgoing.sealed };
        started = set_in g true k.started;
        start = g;
      }) (subst (PutsKey c.keys keys key) is puts) q
      ∙ started_if g c.booted.latest value (bytes_eq key.0 q.0) (bytes_eq m.bytes m.bytes && bytes_eq key.0 q.0)
      (key_in c.keys q) (if bytes_eq m.bytes m.bytes && bytes_eq key.0 q.0 then Some value else None)
      (rw (itself m.bytes) refl) (rw (itself m.bytes) refl);
  floors = λ s. refl;
}
  where
    at : (l : Layer) → layer_of (record c { keys = keys }) l ≡ heard_layer g m.bytes l (line.Start e m key value)
        (layer_of c l)
    at Nwk = refl
    at Aps = refl

-- Accept.

pub sender_is : (t : Term) (s : Sender) → s ≡ sender_of t → IsOfSender t s t.counter
sender_is t s is = subst (λ (x : Sender). IsOfSender t x t.counter) (sym is)
    (record { layer_is = refl; key_is = refl; eui_is = refl; counter_is = refl })

-- The node of a line

pub heard_by : (g number : ℕ) (l known : Line) (m n : Bytes) (old new : Counters) → l ≡ known → speaker known ≡ Some m
    → Hears g number m known old new → speaker l ≡ Some n → Hears g number n l old new
heard_by g number l known m n old new is says heard speaks =
    subst (λ (x : Line). Hears g number n x old new) (sym is)
    (subst (λ (x : Bytes). Hears g number x known old new)
    (unsome m n (sym says ∙ (sym (ap speaker is) ∙ speaks))) heard)
  where
    unsome : (a b : Bytes) → Some a ≡ Some b → a ≡ b
    unsome a b e = cc

pub heard_on : (g number : ℕ) (l : Line) (m : ArrayString) (known : Line) (result : Result Judgement AllocError)
    (old new : Counters) → l ≡ known → speaker known ≡ Some m.bytes
    → OnOk result (Hears g number m.bytes known old new)
    → OnOk result ((n : Bytes) → speaker l ≡ Some n → Hears g number n l old new)
heard_on g number l m known (Ok j) old new is says heard = λ n speaks. heard_by g number l known m.bytes n old new is
    says heard speaks
heard_on g number l m known (Err x) old new is says heard = tt
