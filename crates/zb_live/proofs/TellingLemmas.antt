-- What is printed of the lines of an event, one line after the other.
use Rattle.std.proofs.Common.{◌≡◌, ℕ, true, false, List, [], ◌∷◌, ◌++◌, Option, Some, None, Result, Ok, Err, OnOk, refl, sym, ap, ◌∙◌, map, append-nil}
use Rattle.std.specs.Option.{option_map}
use Rattle.zb_core.specs.CorePlans.{CorePlan}
use Rattle.zb_trace_model.specs.AnswerLines.{AreOfCentre, IsSaid, answer_lines, frame_bytes, line_has_key, lines_of_edits, outcome_lines, refused_lines, terms}
use Rattle.zb_live.specs.Shown.{Prints, event_lines, is_shown, is_written, shown_text}
use Rattle.zb_live.specs.declared.line.Log.{Log}
use Rattle.zb_model.specs.Answer.{Answer}
use Rattle.zb_model.specs.Data as model
use Rattle.zb_model.specs.Data.{Bytes, Edit, Reserve, Floor, Start, Moved, Draw, DropNet, DropLink, Install, Active, Row, Pair, Became, Live, Removed, Roll, Told, Untold, Station}
use Rattle.zb_model.specs.Lines.{Line, Accept, Refuse, Seal}
use Rattle.zb_model.specs.Play.{refuse_lines, send_lines, stored_lines, told_lines}
use Rattle.zb_node_types.specs.Changes.{edit, reason}
use Rattle.zb_node_types.specs.declared.change.Change.{Change}
use Rattle.zb_node_types.specs.declared.refusal.Refusal.{Refusal}
use Rattle.zb_plan.specs.Answers as plan
use Rattle.zb_plan.specs.Answers.{IsAnswer, IsAt}
use Rattle.zb_seal.specs.declared.term.Term.{Term}
use Rattle.zb_trace.specs.Text.{text}
use Rattle.zb_trace.specs.Views.{the_centre}
use Rattle.zb_trace.specs.declared.line.Line.{Line as Printed}
use Rattle.zb_trace_model.specs.Said.{IsOfCentre, line_text, text_of}

pub on_ok : {T E P Q : Type 0} (r : Result T E) → (P → Q) → OnOk r P → OnOk r Q
on_ok (Ok x) f p = f p
on_ok (Err e) f p = tt

-- ---- one line

shown_one : (log : Log) (known : List Station) (m : Line) → is_shown log m ≡ true → shown_text log known (m ∷ [])
    ≡ line_text known m
unfolding shown_text text_of
shown_one log known m is = rw is (append-nil (line_text known m))

hidden_one : (log : Log) (known : List Station) (m : Line) → is_shown log m ≡ false → shown_text log known (m ∷ [])
    ≡ []
unfolding shown_text text_of
hidden_one log known m is = rw is refl

pub one_printed : (log : Log) (l : Printed) (before after : List ℕ) → after ≡ before ++ text l
    → is_written log (line_has_key l) ≡ true
    → (known : List Station) (m : Line) → IsSaid false known l m → Prints log known (m ∷ []) before after
one_printed log l before after prints written known m says =
    prints ∙ ap (λ t. before ++ t)
    (says.text_is ∙ sym (shown_one log known m (ap (is_written log) (sym says.key_is) ∙ written)))

pub none_hidden : (log : Log) (l : Printed) (before : List ℕ) → is_written log (line_has_key l) ≡ false
    → (known : List Station) (m : Line) → IsSaid false known l m → Prints log known (m ∷ []) before before
none_hidden log l before hidden known m says =
    sym (append-nil before) ∙ ap (λ t. before ++ t)
    (sym (hidden_one log known m (ap (is_written log) (sym says.key_is) ∙ hidden)))

-- ---- the whole, if it is the policy's answer

terms_same : (first second : Option Term) → terms first second ≡ plan.terms first second
terms_same first None = refl
terms_same first (Some t) = refl

refusals_as : (number n : ℕ) (place : model.Place) (o : Option Refusal) (found : Option model.Reason)
    → option_map reason o ≡ found → IsAt place o → refused_lines number n o ≡ refuse_lines number n place found
refusals_as number n place None found e at = ap (refuse_lines number n place) e
refusals_as number n place (Some r) found e at = ap (λ (p : model.Place). Refuse number n p (reason r) ∷ []) at ∙ ap
    (refuse_lines number n place) e

four : (number n frame : ℕ) (ts ts' ss ss' : List model.Term) (rs rs' : List Line) (f f' : Option Bytes) → ts ≡ ts'
    → rs ≡ rs' → ss ≡ ss' → f ≡ f'
    → map (Accept number n) ts ++ (rs ++ (map (Seal number n) ss ++ send_lines number (Some n) frame f))
    ≡ map (Accept number n) ts' ++ (rs' ++ (map (Seal number n) ss' ++ send_lines number (Some n) frame f'))
four number n frame ts ts' ss ss' rs rs' f f' one two three last =
    ap (λ (z : List model.Term). map (Accept number n) z
    ++ (rs ++ (map (Seal number n) ss ++ send_lines number (Some n) frame f))) one
    ∙ (ap (λ (z : List Line). map (Accept number n) ts'
    ++ (z ++ (map (Seal number n) ss ++ send_lines number (Some n) frame f))) two
    ∙ (ap (λ (z : List model.Term). map (Accept number n) ts'
    ++ (rs' ++ (map (Seal number n) z ++ send_lines number (Some n) frame f))) three
    ∙ ap (λ (z : Option Bytes). map (Accept number n) ts'
    ++ (rs' ++ (map (Seal number n) ss' ++ send_lines number (Some n) frame z))) last))

outcome_is : (number n frame : ℕ) (p : CorePlan) (a : Answer) → IsAnswer p a → outcome_lines number n frame p.out
    ≡ told_lines number n frame a
unfolding outcome_lines told_lines
outcome_is number n frame p a is =
    four number n frame (terms p.out.accepted_nwk p.out.accepted_aps) a.accepts
    (terms p.out.sealed_aps p.out.sealed_nwk) a.seals (refused_lines number n p.out.refused)
    (refuse_lines number n a.place a.refusal)
    (frame_bytes p.out.frame) a.frame (terms_same p.out.accepted_nwk p.out.accepted_aps ∙ is.accepts)
    (refusals_as number n a.place p.out.refused a.refusal is.refusal is.place)
    (terms_same p.out.sealed_aps p.out.sealed_nwk ∙ is.seals) is.frame

pub answer_is : (number n frame : ℕ) (p : CorePlan) (a : Answer) → IsAnswer p a → answer_lines number n frame p
    ≡ event_lines number n frame a
unfolding event_lines stored_lines
answer_is number n frame p a is =
    ap (λ (es : List Edit). lines_of_edits number n es ++ outcome_lines number n frame p.out) is.changes
    ∙ ap (λ (ls : List Line). lines_of_edits number n a.edits ++ ls) (outcome_is number n frame p a is)

-- ---- whose changes they are

of_centre : (known : List Station) (n : ℕ) (e : Edit) → the_centre known ≡ n → IsOfCentre known n e
of_centre known n (Reserve l limit) is = tt
of_centre known n (Floor l key from value) is = tt
of_centre known n (Start key value) is = tt
of_centre known n (Moved (Draw key)) is = is
of_centre known n (Moved (DropNet key)) is = tt
of_centre known n (Moved (DropLink partner key)) is = tt
of_centre known n (Moved (Install key sequence)) is = tt
of_centre known n (Moved (Active key)) is = tt
of_centre known n (Moved (Row partner key a)) is = tt
of_centre known n (Moved (Pair first second key)) is = tt
of_centre known n (Moved (Became s)) is = tt
of_centre known n (Moved (Live device)) is = is
of_centre known n (Moved (Removed device)) is = is
of_centre known n (Moved (Roll sending)) is = tt
of_centre known n (Moved (Told device)) is = is
of_centre known n (Moved (Untold device)) is = is

pub all_of_centre : (known : List Station) (n : ℕ) (cs : List Change) → the_centre known ≡ n → AreOfCentre known n cs
all_of_centre known n [] is = tt
all_of_centre known n (c ∷ cs) is = (of_centre known n (edit c) is, all_of_centre known n cs is)
