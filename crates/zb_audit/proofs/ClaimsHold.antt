-- If no line is bad, the claims hold.
use Rattle.std.proofs.Common.{◌≡◌, ℕ, ◌+◌, ◌<◌, Bool, true, false, not, ◌&&◌, List, [], ◌∷◌, ◌++◌, length, append_assoc, Option, Some, None, refl, ap, sym, ◌∙◌, bytes_eq, nat_eq, nat_le, leb-false, if◌then◌else◌}
use Rattle.std.specs.List.{list_any, AllByRecursion}
use Rattle.std.proofs.lemmas.Bool.{and_from}
use Rattle.std.proofs.lemmas.List.{append-nil}
use Rattle.zb_audit.specs.Claims.{ConfirmLine, Each, Fresh, FreshFrom, IsOfCentre, Keeps, Once, OnceFrom, Rises, SealsApart, StoredVerified}
use Rattle.zb_audit.specs.Confirming.{Absent, Kept, Made, RowState, confirmed, is_confirmable, is_kept, row_in, stands_for}
use Rattle.zb_audit.specs.Failing.{failing, failing_from, head}
use Rattle.std.specs.Prelude.{Result, Ok, Err, IfOk}
use Rattle.zb_audit.specs.declared.fault.AuditFault.{AuditFault}
use Rattle.zb_audit.specs.Faults.{IsAnswer, IsSound, by, first_fault, sooner, unlocked}
use Rattle.zb_audit.specs.Nonces.{is_fresh, same_stamp, seals_alike}
use Rattle.zb_audit.specs.Taking.{bars, is_later, same_layer, same_sender}
use Rattle.zb_audit.specs.declared.fault.BadLine.{BadLine}
use Rattle.zb_audit.specs.declared.fault.Verdict.{Verdict}
use Rattle.zb_audit.proofs.Failing.{any_more}
use Rattle.zb_audit.proofs.StoredKeys.{stored_kept, stored_verified}
use Rattle.zb_base.specs.declared.address.Eui.{Eui}
use Rattle.zb_base.specs.declared.label.Layer.{Layer}
use Rattle.zb_base.specs.declared.label.Layer.TheVariants.{Nwk, Aps}
use Rattle.zb_audit_names.proofs.Places.{itself}
use Rattle.zb_audit_names.specs.Naming.{declared_in, is_centres}
use Rattle.zb_audit_names.specs.Secrets.{ideal, private}
use Rattle.zb_audit_lockout.specs.Lockout.{first_unlocked, locked, unlocked_from}
use Rattle.zb_model.specs.Data.{Bytes}
use Rattle.zb_model.specs.Tools.{Tools}
use Rattle.zb_audit_counters.specs.Counting.{first_uncounted}
use Rattle.zb_seal.specs.Keys.{sealing_key}
use Rattle.zb_seal.specs.declared.term.Term.{Term}
use Rattle.zb_trace.specs.declared.line.Line.{Line}
use Rattle.zb_trace.specs.declared.line.Line.TheVariants as line
use Rattle.zb_trace_watch.proofs.Truth.{and_left, and_right, both, itself_number, not_both, or_left, or_right}

-- Tests that no line fails

no_number : (b : Bool) (n : ℕ) (ns : List ℕ) → (if b then [] else n ∷ []) ++ ns ≡ [] → (b ≡ true) × (ns ≡ [])
no_number true n ns e = (refl, e)
no_number false n ns e = cc

passes : (test : List Line → Line → Bool) (g : List Line) (l : Line) (ls : List Line) → failing_from test g (l ∷ ls)
    ≡ [] → (test g l ≡ true) × (failing_from test (g ++ l ∷ []) ls ≡ [])
unfolding failing_from
passes test g l ls e = no_number (test g l) (length g + 1) (failing_from test (g ++ l ∷ []) ls) e

-- A line among others.
abbrev IsIn : Line → List Line → Type 0
IsIn m g = (p : Line → Bool) → p m ≡ true → list_any p g ≡ true

in_more : (m : Line) (g : List Line) (l : Line) → IsIn m g → IsIn m (g ++ l ∷ [])
in_more m g l here p it = any_more p g l ∙ or_left (list_any p g) (p l) (here p it)

in_end : (g : List Line) (l : Line) → IsIn l (g ++ l ∷ [])
in_end g l p it = any_more p g l ∙ or_right (list_any p g) (p l) it

not_some : (p : Line → Bool) (g : List Line) (m : Line) → IsIn m g → not (list_any p g) ≡ true → p m ≡ true → ⊥
not_some p g m here none it = not_both (not (list_any p g)) none (ap not (here p it))

-- Nonces

same_seal : (t u : Term) → sealing_key t.label t.base.0 ≡ sealing_key u.label u.base.0 → t.source.0 ≡ u.source.0
    → t.counter ≡ u.counter → t.control ≡ u.control → same_stamp u t ≡ true
unfolding same_stamp
same_seal t u keys sources counters controls =
    both _ _ (ap (bytes_eq (sealing_key u.label u.base.0)) keys ∙ itself (sealing_key u.label u.base.0))
    (both _ _ (ap (nat_eq u.source.0) sources ∙ itself_number u.source.0)
    (both _ _ (ap (nat_eq u.counter) counters ∙ itself_number u.counter)
    (ap (nat_eq u.control) controls ∙ itself_number u.control)))

apart_one : (event : ℕ) (node : _) (t : Term) (g : List Line) (l : Line) → IsIn (line.Seal event node t) g
    → is_fresh g l ≡ true → SealsApart t l
unfolding is_fresh
apart_one event node t g (line.Node x0 x1 x2 x3 x4 x5) here fresh = tt
apart_one event node t g (line.GivenNet x0 x1 x2) here fresh = tt
apart_one event node t g (line.GivenLink x0 x1 x2) here fresh = tt
apart_one event node t g (line.Counter x0 x1 x2) here fresh = tt
apart_one event node t g (line.Reserve x0 x1 x2 x3) here fresh = tt
apart_one event node t g (line.Floor x0 x1 x2 x3 x4 x5) here fresh = tt
apart_one event node t g (line.Draw x0 x1) here fresh = tt
apart_one event node t g (line.DropNet x0 x1 x2) here fresh = tt
apart_one event node t g (line.DropLink x0 x1 x2 x3) here fresh = tt
apart_one event node t g (line.Install x0 x1 x2 x3) here fresh = tt
apart_one event node t g (line.Active x0 x1 x2) here fresh = tt
apart_one event node t g (line.Start x0 x1 x2 x3) here fresh = tt
apart_one event node t g (line.Row x0 x1 x2 x3 x4) here fresh = tt
apart_one event node t g (line.Pair x0 x1 x2 x3 x4) here fresh = tt
apart_one event node t g (line.State x0 x1 x2) here fresh = tt
apart_one event node t g (line.Live x0 x1) here fresh = tt
apart_one event node t g (line.Removed x0 x1) here fresh = tt
apart_one event node t g (line.Roll x0 x1 x2) here fresh = tt
apart_one event node t g (line.Told x0 x1) here fresh = tt
apart_one event node t g (line.Untold x0 x1) here fresh = tt
apart_one event node t g (line.Commit x0 x1) here fresh = tt
apart_one event node t g (line.Accept x0 x1 x2) here fresh = tt
apart_one event node t g (line.Refuse x0 x1 x2) here fresh = tt
apart_one event node t g (line.Seal x0 x1 u) here fresh =
    λ keys sources counters controls. not_some (seals_alike u) g (line.Seal event node t) here fresh
    (same_seal t u keys sources counters controls)
apart_one event node t g (line.Forge x0 x1) here fresh = tt
apart_one event node t g (line.Send x0 x1 x2 x3) here fresh = tt
apart_one event node t g (line.Inject x0 x1 x2) here fresh = tt
apart_one event node t g (line.Stopped x0 x1) here fresh = tt
apart_one event node t g (line.DownReset x0 x1) here fresh = tt
apart_one event node t g (line.DownDisk x0 x1) here fresh = tt
apart_one event node t g (line.Boot x0 x1) here fresh = tt
apart_one event node t g (line.Dump x0 x1 x2) here fresh = tt
apart_one event node t g (line.End x0 x1 x2 x3 x4 x5) here fresh = tt

all_apart : (event : ℕ) (node : _) (t : Term) (g ls : List Line) → IsIn (line.Seal event node t) g
    → failing_from is_fresh g ls ≡ [] → AllByRecursion (SealsApart t) ls
all_apart event node t g [] here none = tt
all_apart event node t g (l ∷ ls) here none =
    let it = passes is_fresh g l ls none in (
      apart_one event node t g l here it.0,
      all_apart event node t (g ++ l ∷ []) ls
          (in_more (line.Seal event node t) g l here) it.1,
    )

fresh_line : (g : List Line) (l : Line) (ls : List Line) → failing_from is_fresh (g ++ l ∷ []) ls ≡ [] → FreshFrom l ls
fresh_line g (line.Node x0 x1 x2 x3 x4 x5) ls none = tt
fresh_line g (line.GivenNet x0 x1 x2) ls none = tt
fresh_line g (line.GivenLink x0 x1 x2) ls none = tt
fresh_line g (line.Counter x0 x1 x2) ls none = tt
fresh_line g (line.Reserve x0 x1 x2 x3) ls none = tt
fresh_line g (line.Floor x0 x1 x2 x3 x4 x5) ls none = tt
fresh_line g (line.Draw x0 x1) ls none = tt
fresh_line g (line.DropNet x0 x1 x2) ls none = tt
fresh_line g (line.DropLink x0 x1 x2 x3) ls none = tt
fresh_line g (line.Install x0 x1 x2 x3) ls none = tt
fresh_line g (line.Active x0 x1 x2) ls none = tt
fresh_line g (line.Start x0 x1 x2 x3) ls none = tt
fresh_line g (line.Row x0 x1 x2 x3 x4) ls none = tt
fresh_line g (line.Pair x0 x1 x2 x3 x4) ls none = tt
fresh_line g (line.State x0 x1 x2) ls none = tt
fresh_line g (line.Live x0 x1) ls none = tt
fresh_line g (line.Removed x0 x1) ls none = tt
fresh_line g (line.Roll x0 x1 x2) ls none = tt
fresh_line g (line.Told x0 x1) ls none = tt
fresh_line g (line.Untold x0 x1) ls none = tt
fresh_line g (line.Commit x0 x1) ls none = tt
fresh_line g (line.Accept x0 x1 x2) ls none = tt
fresh_line g (line.Refuse x0 x1 x2) ls none = tt
fresh_line g (line.Seal x0 x1 t) ls none = all_apart x0 x1 t (g ++ line.Seal x0 x1 t ∷ []) ls
    (in_end g (line.Seal x0 x1 t)) none
fresh_line g (line.Forge x0 x1) ls none = tt
fresh_line g (line.Send x0 x1 x2 x3) ls none = tt
fresh_line g (line.Inject x0 x1 x2) ls none = tt
fresh_line g (line.Stopped x0 x1) ls none = tt
fresh_line g (line.DownReset x0 x1) ls none = tt
fresh_line g (line.DownDisk x0 x1) ls none = tt
fresh_line g (line.Boot x0 x1) ls none = tt
fresh_line g (line.Dump x0 x1 x2) ls none = tt
fresh_line g (line.End x0 x1 x2 x3 x4 x5) ls none = tt

all_fresh : (g ls : List Line) → failing_from is_fresh g ls ≡ [] → Fresh ls
all_fresh g [] none = tt
all_fresh g (l ∷ ls) none = let it =
    passes is_fresh g l ls none in (fresh_line g l ls it.1, all_fresh (g ++ l ∷ []) ls it.1)

-- Accepted counters

layer_itself : (a : Layer) → same_layer a a ≡ true
layer_itself Nwk = refl
layer_itself Aps = refl

rises_by : (t u : Term) (name node : Bytes) (g : List Line) (m : Line) → IsIn m g
    → (bars node u m ≡ (bytes_eq name node && (same_sender u t && nat_le u.counter t.counter)))
    → not (list_any (bars node u) g) ≡ true → node ≡ name → t.layer ≡ u.layer → t.base.0 ≡ u.base.0 → t.source.0
    ≡ u.source.0 → (b : Bool) → nat_le u.counter t.counter ≡ b → t.counter < u.counter
unfolding same_sender
rises_by t u name node g m here is none nodes layers bases sources true e =
    absurd (not_some (bars node u) g m here none
    (is ∙ both _ _ (ap (bytes_eq name) nodes ∙ itself name)
    (both _ _
    (both _ _ (ap (same_layer u.layer) layers ∙ layer_itself u.layer)
    (both _ _ (ap (bytes_eq u.base.0) bases ∙ itself u.base.0)
    (ap (nat_eq u.source.0) sources ∙ itself_number u.source.0))) e)))
rises_by t u name node g m here is none nodes layers bases sources false e = leb-false u.counter t.counter e

rises_one : (event : ℕ) (node : _) (t : Term) (g : List Line) (l : Line) → IsIn (line.Accept event node t) g
    → is_later g l ≡ true → Rises node.bytes t l
unfolding is_later bars
rises_one event node t g (line.Node x0 x1 x2 x3 x4 x5) here later = tt
rises_one event node t g (line.GivenNet x0 x1 x2) here later = tt
rises_one event node t g (line.GivenLink x0 x1 x2) here later = tt
rises_one event node t g (line.Counter x0 x1 x2) here later = tt
rises_one event node t g (line.Reserve x0 x1 x2 x3) here later = tt
rises_one event node t g (line.Floor x0 x1 x2 x3 x4 x5) here later = tt
rises_one event node t g (line.Draw x0 x1) here later = tt
rises_one event node t g (line.DropNet x0 x1 x2) here later = tt
rises_one event node t g (line.DropLink x0 x1 x2 x3) here later = tt
rises_one event node t g (line.Install x0 x1 x2 x3) here later = tt
rises_one event node t g (line.Active x0 x1 x2) here later = tt
rises_one event node t g (line.Start x0 x1 x2 x3) here later = tt
rises_one event node t g (line.Row x0 x1 x2 x3 x4) here later = tt
rises_one event node t g (line.Pair x0 x1 x2 x3 x4) here later = tt
rises_one event node t g (line.State x0 x1 x2) here later = tt
rises_one event node t g (line.Live x0 x1) here later = tt
rises_one event node t g (line.Removed x0 x1) here later = tt
rises_one event node t g (line.Roll x0 x1 x2) here later = tt
rises_one event node t g (line.Told x0 x1) here later = tt
rises_one event node t g (line.Untold x0 x1) here later = tt
rises_one event node t g (line.Commit x0 x1) here later = tt
rises_one event node t g (line.Accept x0 x1 u) here later =
    λ nodes layers bases sources.
    rises_by t u node.bytes x1.bytes g (line.Accept event node t) here refl later nodes layers bases sources
    (nat_le u.counter t.counter) refl
rises_one event node t g (line.Refuse x0 x1 x2) here later = tt
rises_one event node t g (line.Seal x0 x1 x2) here later = tt
rises_one event node t g (line.Forge x0 x1) here later = tt
rises_one event node t g (line.Send x0 x1 x2 x3) here later = tt
rises_one event node t g (line.Inject x0 x1 x2) here later = tt
rises_one event node t g (line.Stopped x0 x1) here later = tt
rises_one event node t g (line.DownReset x0 x1) here later = tt
rises_one event node t g (line.DownDisk x0 x1) here later = tt
rises_one event node t g (line.Boot x0 x1) here later = tt
rises_one event node t g (line.Dump x0 x1 x2) here later = tt
rises_one event node t g (line.End x0 x1 x2 x3 x4 x5) here later = tt

all_rise : (event : ℕ) (node : _) (t : Term) (g ls : List Line) → IsIn (line.Accept event node t) g
    → failing_from is_later g ls ≡ [] → AllByRecursion (Rises node.bytes t) ls
all_rise event node t g [] here none = tt
all_rise event node t g (l ∷ ls) here none =
    let it = passes is_later g l ls none in (
      rises_one event node t g l here it.0,
      all_rise event node t (g ++ l ∷ []) ls
          (in_more (line.Accept event node t) g l here) it.1,
    )

once_line : (g : List Line) (l : Line) (ls : List Line) → failing_from is_later (g ++ l ∷ []) ls ≡ [] → OnceFrom l ls
once_line g (line.Node x0 x1 x2 x3 x4 x5) ls none = tt
once_line g (line.GivenNet x0 x1 x2) ls none = tt
once_line g (line.GivenLink x0 x1 x2) ls none = tt
once_line g (line.Counter x0 x1 x2) ls none = tt
once_line g (line.Reserve x0 x1 x2 x3) ls none = tt
once_line g (line.Floor x0 x1 x2 x3 x4 x5) ls none = tt
once_line g (line.Draw x0 x1) ls none = tt
once_line g (line.DropNet x0 x1 x2) ls none = tt
once_line g (line.DropLink x0 x1 x2 x3) ls none = tt
once_line g (line.Install x0 x1 x2 x3) ls none = tt
once_line g (line.Active x0 x1 x2) ls none = tt
once_line g (line.Start x0 x1 x2 x3) ls none = tt
once_line g (line.Row x0 x1 x2 x3 x4) ls none = tt
once_line g (line.Pair x0 x1 x2 x3 x4) ls none = tt
once_line g (line.State x0 x1 x2) ls none = tt
once_line g (line.Live x0 x1) ls none = tt
once_line g (line.Removed x0 x1) ls none = tt
once_line g (line.Roll x0 x1 x2) ls none = tt
once_line g (line.Told x0 x1) ls none = tt
once_line g (line.Untold x0 x1) ls none = tt
once_line g (line.Commit x0 x1) ls none = tt
once_line g (line.Accept x0 x1 t) ls none = all_rise x0 x1 t (g ++ line.Accept x0 x1 t ∷ []) ls
    (in_end g (line.Accept x0 x1 t)) none
once_line g (line.Refuse x0 x1 x2) ls none = tt
once_line g (line.Seal x0 x1 x2) ls none = tt
once_line g (line.Forge x0 x1) ls none = tt
once_line g (line.Send x0 x1 x2 x3) ls none = tt
once_line g (line.Inject x0 x1 x2) ls none = tt
once_line g (line.Stopped x0 x1) ls none = tt
once_line g (line.DownReset x0 x1) ls none = tt
once_line g (line.DownDisk x0 x1) ls none = tt
once_line g (line.Boot x0 x1) ls none = tt
once_line g (line.Dump x0 x1 x2) ls none = tt
once_line g (line.End x0 x1 x2 x3 x4 x5) ls none = tt

all_once : (g ls : List Line) → failing_from is_later g ls ≡ [] → Once ls
all_once g [] none = tt
all_once g (l ∷ ls) none = let it =
    passes is_later g l ls none in (once_line g l ls it.1, all_once (g ++ l ∷ []) ls it.1)

-- Confirmed keys

kept_is : (s : RowState) → is_kept s ≡ true → s ≡ Kept
kept_is Absent e = cc
kept_is Made e = cc
kept_is Kept e = refl

pub confirm_one : (h : List Line) (l : Line) → is_confirmable h l ≡ true → ConfirmLine h l
unfolding is_confirmable
confirm_one h (line.Node x0 x1 x2 x3 x4 x5) fine = tt
confirm_one h (line.GivenNet x0 x1 x2) fine = tt
confirm_one h (line.GivenLink x0 x1 x2) fine = tt
confirm_one h (line.Counter x0 x1 x2) fine = tt
confirm_one h (line.Reserve x0 x1 x2 x3) fine = tt
confirm_one h (line.Floor x0 x1 x2 x3 x4 x5) fine = tt
confirm_one h (line.Draw x0 x1) fine = tt
confirm_one h (line.DropNet x0 x1 x2) fine = tt
confirm_one h (line.DropLink x0 x1 x2 x3) fine = tt
confirm_one h (line.Install x0 x1 x2 x3) fine = tt
confirm_one h (line.Active x0 x1 x2) fine = tt
confirm_one h (line.Start x0 x1 x2 x3) fine = tt
confirm_one h (line.Row x0 x1 x2 x3 x4) fine = tt
confirm_one h (line.Pair x0 x1 x2 x3 x4) fine = tt
confirm_one h (line.State x0 x1 x2) fine = tt
confirm_one h (line.Live x0 x1) fine = tt
confirm_one h (line.Removed x0 x1) fine = tt
confirm_one h (line.Roll x0 x1 x2) fine = tt
confirm_one h (line.Told x0 x1) fine = tt
confirm_one h (line.Untold x0 x1) fine = tt
confirm_one h (line.Commit x0 x1) fine = tt
confirm_one h (line.Accept x0 x1 x2) fine = tt
confirm_one h (line.Refuse x0 x1 x2) fine = tt
confirm_one h (line.Seal x0 x1 t) fine =
    λ device is.
    let it : stands_for h x1.bytes t.base.0 (Some device) ≡ true = ap (stands_for h x1.bytes t.base.0) (sym is) ∙ fine
    in (
      and_left (is_centres (declared_in h) x1.bytes) _ it,
      stored_verified h device.0 t.base.0
          (kept_is (row_in h device.0 t.base.0) (and_right (is_centres (declared_in h) x1.bytes) _ it)),
    )
confirm_one h (line.Forge x0 x1) fine = tt
confirm_one h (line.Send x0 x1 x2 x3) fine = tt
confirm_one h (line.Inject x0 x1 x2) fine = tt
confirm_one h (line.Stopped x0 x1) fine = tt
confirm_one h (line.DownReset x0 x1) fine = tt
confirm_one h (line.DownDisk x0 x1) fine = tt
confirm_one h (line.Boot x0 x1) fine = tt
confirm_one h (line.Dump x0 x1 x2) fine = tt
confirm_one h (line.End x0 x1 x2 x3 x4 x5) fine = tt

-- And back

stands_by : (h : List Line) (name base : Bytes) (o : Option Eui)
    → ((device : Eui) → o ≡ Some device → IsOfCentre h name × StoredVerified h device.0 base)
    → stands_for h name base o ≡ true
stands_by h name base None stored = refl
stands_by h name base (Some device) stored =
    let it = stored device refl in
    and_from (is_centres (declared_in h) name) (is_kept (row_in h device.0 base)) it.0
    (ap is_kept (stored_kept h device.0 base it.1))

pub confirmable_one : (h : List Line) (l : Line) → ConfirmLine h l → is_confirmable h l ≡ true
unfolding is_confirmable
confirmable_one h (line.Node x0 x1 x2 x3 x4 x5) stored = refl
confirmable_one h (line.GivenNet x0 x1 x2) stored = refl
confirmable_one h (line.GivenLink x0 x1 x2) stored = refl
confirmable_one h (line.Counter x0 x1 x2) stored = refl
confirmable_one h (line.Reserve x0 x1 x2 x3) stored = refl
confirmable_one h (line.Floor x0 x1 x2 x3 x4 x5) stored = refl
confirmable_one h (line.Draw x0 x1) stored = refl
confirmable_one h (line.DropNet x0 x1 x2) stored = refl
confirmable_one h (line.DropLink x0 x1 x2 x3) stored = refl
confirmable_one h (line.Install x0 x1 x2 x3) stored = refl
confirmable_one h (line.Active x0 x1 x2) stored = refl
confirmable_one h (line.Start x0 x1 x2 x3) stored = refl
confirmable_one h (line.Row x0 x1 x2 x3 x4) stored = refl
confirmable_one h (line.Pair x0 x1 x2 x3 x4) stored = refl
confirmable_one h (line.State x0 x1 x2) stored = refl
confirmable_one h (line.Live x0 x1) stored = refl
confirmable_one h (line.Removed x0 x1) stored = refl
confirmable_one h (line.Roll x0 x1 x2) stored = refl
confirmable_one h (line.Told x0 x1) stored = refl
confirmable_one h (line.Untold x0 x1) stored = refl
confirmable_one h (line.Commit x0 x1) stored = refl
confirmable_one h (line.Accept x0 x1 x2) stored = refl
confirmable_one h (line.Refuse x0 x1 x2) stored = refl
confirmable_one h (line.Seal x0 x1 t) stored = stands_by h x1.bytes t.base.0 (confirmed t) stored
confirmable_one h (line.Forge x0 x1) stored = refl
confirmable_one h (line.Send x0 x1 x2 x3) stored = refl
confirmable_one h (line.Inject x0 x1 x2) stored = refl
confirmable_one h (line.Stopped x0 x1) stored = refl
confirmable_one h (line.DownReset x0 x1) stored = refl
confirmable_one h (line.DownDisk x0 x1) stored = refl
confirmable_one h (line.Boot x0 x1) stored = refl
confirmable_one h (line.Dump x0 x1 x2) stored = refl
confirmable_one h (line.End x0 x1 x2 x3 x4 x5) stored = refl

all_confirm : (g ls : List Line) → failing_from is_confirmable g ls ≡ [] → Each ConfirmLine g ls
all_confirm g [] none = tt
all_confirm g (l ∷ ls) none = let it =
    passes is_confirmable g l ls none in (confirm_one g l it.0, all_confirm (g ++ l ∷ []) ls it.1)

-- Lockout

goes_on : (tools : Tools) (g ls : List Line) (n : ℕ) (b : Bool) → locked tools g ≡ b
    → (if b then unlocked_from tools g ls else Some n) ≡ None
    → (locked tools g ≡ true → unlocked_from tools g ls ≡ None → locked tools (g ++ ls) ≡ true)
    → locked tools (g ++ ls) ≡ true
goes_on tools g ls n true e none more = more e none
goes_on tools g ls n false e none more = cc

locked_on : (tools : Tools) (g ls : List Line) → locked tools g ≡ true → unlocked_from tools g ls ≡ None
    → locked tools (g ++ ls) ≡ true
locked_on tools g [] before none = ap (locked tools) (append-nil g) ∙ before
locked_on tools g (l ∷ ls) before none =
    ap (locked tools) (sym (append_assoc g (l ∷ []) ls)) ∙ goes_on tools (g ++ l ∷ []) ls (length g + 1)
    (locked tools (g ++ l ∷ [])) refl none (locked_on tools (g ++ l ∷ []) ls)

-- All at once

none_sooner : (a b : Option BadLine) → sooner a b ≡ None → (a ≡ None) × (b ≡ None)
none_sooner None b e = (refl, e)
none_sooner (Some x) None e = cc
none_sooner (Some x) (Some y) e = by (nat_le x.line y.line) e
  where
    by : (c : Bool) → (if c then Some x else Some y) ≡ None → (Some x ≡ None) × (Some y ≡ None)
    by true e = cc
    by false e = cc

none_by : (clause : ℕ) (o : Option ℕ) → by clause o ≡ None → o ≡ None
none_by clause None e = refl
none_by clause (Some n) e = cc

headless : {A : Type 0} (xs : List A) → head xs ≡ None → xs ≡ []
headless [] e = refl
headless (x ∷ xs) e = cc

none_locked : (tools : Tools) → locked tools [] ≡ true
unfolding locked
none_locked tools = refl

locked_word : (tools : Tools) (lines : List Line) → (ideal tools lines && private tools lines) ≡ true
    → unlocked tools lines ≡ None → locked tools lines ≡ true
unfolding unlocked first_unlocked
locked_word tools lines held none =
    locked_on tools [] lines (none_locked tools)
    (ap (λ (b : Bool). if b then unlocked_from tools [] lines else None) (sym held) ∙ none)

pub claims_hold : (tools : Tools) (v : Verdict) (lines : List Line) → IsSound tools v lines → Keeps tools v lines
unfolding first_fault failing
claims_hold tools v lines sound =
    let one = none_sooner (by 1 (head (failing is_fresh lines))) _ sound.whole in
    let two = none_sooner (by 2 (head (failing is_later lines))) _ one.1 in
    let three = none_sooner (by 3 (head (failing is_confirmable lines))) _ two.1 in
    let four = none_sooner (by 4 (first_uncounted lines)) _ three.1 in
    let five = none_sooner (by 5 (unlocked tools lines)) _ four.1 in
    record {
      fresh = all_fresh [] lines (headless _ (none_by 1 _ one.0));
      once = all_once [] lines (headless _ (none_by 2 _ two.0));
      confirms = all_confirm [] lines (headless _ (none_by 3 _ three.0));
      locked = λ word. locked_word tools lines (sym sound.locked ∙ word) (none_by 5 _ five.0);
    }

pub keeps_if_sound : (tools : Tools) (lines : List Line) (result : Result Verdict AuditFault)
    → IsAnswer tools lines result → IfOk result (λ v. Keeps tools v lines)
keeps_if_sound tools lines (Ok v) sound = claims_hold tools v lines sound
keeps_if_sound tools lines (Err e) it = tt
