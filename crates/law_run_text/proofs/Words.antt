-- Lines of declared nodes, whose numbers are in their ranges, are proper.
use Rattle.std.proofs.Common.{◌≡◌, ℕ, true, List, [], ◌∷◌, Some, None, refl, inl, inr}
use Rattle.std.specs.List.{AllByRecursion}
use Rattle.zb_base.specs.declared.place.Place.{Place}
use Rattle.zb_model.specs.Data as model
use Rattle.zb_model.specs.Data.{Station}
use Rattle.zb_model.specs.Lines as log
use Rattle.zb_model.specs.Play.{Schedule, stations}
use Rattle.zb_model.specs.Schedules.{IsSchedule}
use Rattle.zb_model.specs.Tools.{Tools}
use Rattle.zb_model.specs.Transcript.{transcript}
use Rattle.law_run.specs.Commanding.{OneCentre}
use Rattle.law_run_text.specs.Alone.{AreWide, StandAlone}
use Rattle.law_run_text.specs.OfNodes.{IsOfSchedule}
use Rattle.law_run_text.specs.Wide.{IsWide, MayBe}
use Rattle.law_run_text.proofs.Lines.{are_of_nodes}
use Rattle.zb_trace_model.specs.Naming.{AreNamed, name_of}
use Rattle.zb_trace_model.specs.Parts.{place_for, refusal_for}
use Rattle.zb_trace_model.specs.Said.{AreProper, line_for}
use Rattle.zb_trace_model.proofs.Fixed.{text_fixes}
use Rattle.zb_trace_model.proofs.Naming.{each_name}
use Rattle.zb_text.specs.Fields.{is_name}
use Rattle.zb_trace.specs.Text as trace
use Rattle.zb_trace.specs.Text.{MayStand, refusal_words, term_words, words}

abbrev Stands : List Station → log.Line → Type 0
Stands known m = trace.IsProper (line_for known m)

refusal_stands : (at : Place) (why : model.Reason) → AllByRecursion MayBe (refusal_words (refusal_for at why))
    → AllByRecursion MayStand (refusal_words (refusal_for at why))
unfolding refusal_words
refusal_stands at model.Down is = is
refusal_stands at model.Malformed is = is
refusal_stands at model.NotForMe is = is
refusal_stands at model.Unsecured is = is
refusal_stands at model.NoKey is = is
refusal_stands at model.CounterMax is = is
refusal_stands at (model.Stale floor) is = is
refusal_stands at model.BadMic is = is
refusal_stands at model.Policy is = is
refusal_stands at model.NotMember is = is
refusal_stands at model.WrongState is = is
refusal_stands at (model.KeyOld row) is = is
refusal_stands at model.KeysFull is = is
refusal_stands at model.RowsFull is = is
refusal_stands at (model.KeyInUse partner) is = is
refusal_stands at model.NoDraw is = is
refusal_stands at model.CounterSpent is = is
refusal_stands at model.WrongHash is = is
refusal_stands at model.NoFrame is = is

abbrev IsSpelled : List Station → ℕ → Type 0
IsSpelled known n = is_name (name_of known n) ≡ true

edit_stands : (known : List Station) (event n : ℕ) (e : model.Edit) → IsSpelled known n
    → IsWide (log.Changed event n e) → Stands known (log.Changed event n e)
unfolding IsWide line_for
edit_stands known event n (model.Reserve l limit) s w = (w.0, (w.1.0, (s, w.1.1.1)))
edit_stands known event n (model.Floor l key from value) s w = (w.0, (w.1.0, (s, w.1.1.1)))
edit_stands known event n (model.Start key value) s w = (w.0, (w.1.0, (s, w.1.1.1)))
edit_stands known event n (model.Moved (model.Draw key)) s w = w
edit_stands known event n (model.Moved (model.DropNet key)) s w = (w.0, (w.1.0, (s, w.1.1.1)))
edit_stands known event n (model.Moved (model.DropLink p key)) s w = (w.0, (w.1.0, (s, w.1.1.1)))
edit_stands known event n (model.Moved (model.Install key q)) s w = (w.0, (w.1.0, (s, w.1.1.1)))
edit_stands known event n (model.Moved (model.Active key)) s w = (w.0, (w.1.0, (s, w.1.1.1)))
edit_stands known event n (model.Moved (model.Row p key t)) s w = (w.0, (w.1.0, (s, w.1.1.1)))
edit_stands known event n (model.Moved (model.Pair u v key)) s w = (w.0, (w.1.0, (s, w.1.1.1)))
edit_stands known event n (model.Moved (model.Became g)) s w = (w.0, (w.1.0, (s, w.1.1.1)))
edit_stands known event n (model.Moved (model.Live d)) s w = w
edit_stands known event n (model.Moved (model.Removed d)) s w = w
edit_stands known event n (model.Moved (model.Roll b)) s w = (w.0, (w.1.0, (s, w.1.1.1)))
edit_stands known event n (model.Moved (model.Told d)) s w = w
edit_stands known event n (model.Moved (model.Untold d)) s w = w

pub line_stands : (known : List Station) → AreNamed known → (m : log.Line) → IsOfSchedule known m → IsWide m
    → Stands known m
unfolding IsWide line_for term_words
line_stands known fits (log.Declared p) is w =
    (w.0, (w.1.0, (is.1 (λ (q : Station). is_name q.name) fits.names, w.1.1.1)))
line_stands known fits (log.GivenNet n key sequence) is w =
    (w.0, (w.1.0, (each_name (λ name. is_name name ≡ true) known n fits.names is.0, w.1.1.1)))
line_stands known fits (log.GivenLink n partner key) is w =
    (w.0, (w.1.0, (each_name (λ name. is_name name ≡ true) known n fits.names is.0, w.1.1.1)))
line_stands known fits (log.Counter n l limit) is w =
    (w.0, (w.1.0, (each_name (λ name. is_name name ≡ true) known n fits.names is.0, w.1.1.1)))
line_stands known fits (log.Changed event n e) is w =
    edit_stands known event n e (each_name (λ name. is_name name ≡ true) known n fits.names is.0.0) w
line_stands known fits (log.Commit event n) is w =
    (w.0, (w.1.0, (each_name (λ name. is_name name ≡ true) known n fits.names is.0, w.1.1.1)))
line_stands known fits (log.Accept event n t) is w =
    (w.0, (w.1.0, (each_name (λ name. is_name name ≡ true) known n fits.names is.0, w.1.1.1)))
line_stands known fits (log.Refuse event n at why) is w = (
  w.0,
  (
    w.1.0,
    (each_name (λ name. is_name name ≡ true) known n fits.names is.0, refusal_stands (place_for at) why w.1.1.1),
  ),
)
line_stands known fits (log.Seal event n t) is w =
    (w.0, (w.1.0, (each_name (λ name. is_name name ≡ true) known n fits.names is.0, w.1.1.1)))
line_stands known fits (log.Forge event t) is w = w
line_stands known fits (log.Send event None frame bytes) is w = (w.0, (w.1.0, (inr refl, w.1.1.1)))
line_stands known fits (log.Send event (Some n) frame bytes) is w =
    (w.0, (w.1.0, (inl (each_name (λ name. is_name name ≡ true) known n fits.names is.0), w.1.1.1)))
line_stands known fits (log.Inject event frame bytes) is w = w
line_stands known fits (log.Stopped event n) is w =
    (w.0, (w.1.0, (each_name (λ name. is_name name ≡ true) known n fits.names is.0, w.1.1.1)))
line_stands known fits (log.DownReset event n) is w =
    (w.0, (w.1.0, (each_name (λ name. is_name name ≡ true) known n fits.names is.0, w.1.1.1)))
line_stands known fits (log.DownDisk event n) is w =
    (w.0, (w.1.0, (each_name (λ name. is_name name ≡ true) known n fits.names is.0, w.1.1.1)))
line_stands known fits (log.Boot event n) is w =
    (w.0, (w.1.0, (each_name (λ name. is_name name ≡ true) known n fits.names is.0, w.1.1.1)))
line_stands known fits (log.Dump event n bytes) is w =
    (w.0, (w.1.0, (each_name (λ name. is_name name ≡ true) known n fits.names is.0, w.1.1.1)))
line_stands known fits (log.End events seals accepts refusals ideal private) is w = w

all_stand : (known : List Station) → AreNamed known → (lines : List log.Line)
    → AllByRecursion (IsOfSchedule known) lines → AllByRecursion IsWide lines → AreProper known lines
all_stand known fits [] is w = tt
all_stand known fits (m ∷ lines) is w =
    (record { node = is.0.0; words = line_stands known fits m is.0 w.0 }, all_stand known fits lines is.1 w.1)

pub stand_alone : (tools : Tools) (w : Schedule) → IsSchedule w → OneCentre w → AreNamed (stations w)
    → AreWide tools w → StandAlone tools w
stand_alone tools w is one fits wide =
    let proper = all_stand (stations w) fits (transcript tools w) (are_of_nodes tools w is one) wide in
    record {
      proper = proper;
      alone = λ lines their same. text_fixes (stations w) fits lines (transcript tools w)
          their proper same;
    }
