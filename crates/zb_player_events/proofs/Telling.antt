-- The lines of a refusal, of an answer and of a fall, as a scribe has them and as the model does.
use Rattle.std.proofs.Common.{◌≡◌, ℕ, Bool, true, false, if◌then◌else◌, List, [], ◌∷◌, ◌++◌, map, Option, Some, None, option_map, refl, sym, ap, ◌∙◌, subst, ◌||◌}
use Rattle.std.proofs.lemmas.Bool.{false≢true}
use Rattle.std.specs.List.{list_any}
use Rattle.zb_core.specs.CorePlans.{CorePlan}
use Rattle.zb_armed_host.specs.Driven.{fall_of}
use Rattle.zb_armed_host.specs.declared.fall.Fall.{Fall}
use Rattle.zb_armed_host.specs.declared.fall.Fall.TheVariants.{Stopped as stopped, Failed as failed}
use Rattle.zb_player_events.specs.Told.{Adds, IsRefusedFor, fall_line}
use Rattle.zb_player_events.specs.declared.ledger.Ledger.{Ledger}
use Rattle.zb_model.specs.Answer.{Answer}
use Rattle.zb_model.specs.Data as model
use Rattle.zb_model.specs.Data.{AtEvent, Bytes, Edit, Moved, Reserve, Floor, Start, Draw, DropNet, DropLink, Install, Active, Row, Pair, Became, Live, Removed, Roll, Told, Untold, Station}
use Rattle.zb_model.specs.Lines.{Line, Accept, Refuse, Seal}
use Rattle.zb_model.specs.Play.{Schedule, Armed, NotArmed, StopAfter, FailAt, Calls, falls, fallen_line, refuse_lines, send_lines, told_lines}
use Rattle.law_run_steps.specs.Steps.{is_of_the_centre}
use Rattle.zb_node_types.specs.Changes.{edit, edits, model_place, place_of, reason}
use Rattle.zb_node_types.specs.declared.change.Change.{Change}
use Rattle.zb_node_types.specs.declared.refusal.Refusal.{Refusal}
use Rattle.zb_plan.specs.Answers as plan
use Rattle.zb_plan.specs.Answers.{IsAnswer, IsAt}
use Rattle.zb_trace_model.specs.Said.{IsOfCentre}
use Rattle.zb_trace_model.specs.AnswerLines.{AreOfCentre, declares_node, frame_bytes, lines_of_edits, outcome_lines, refused_lines, terms}
use Rattle.zb_seal.specs.declared.term.Term.{Term}
use Rattle.zb_trace.specs.Views.{the_centre}

-- ---- a refusal

pub refused_as : (w : Schedule) (h : List Line) (number n : ℕ) (why : model.Reason) (r : Refusal) (old new : Ledger)
    → IsRefusedFor why r
    → Adds w h (Refuse number n (model_place (place_of r)) (reason r) ∷ []) old new
    → Adds w h (Refuse number n AtEvent why ∷ []) old new
refused_as w h number n why r old new is adds =
    subst (λ (p : model.Place). Adds w h (Refuse number n p why ∷ []) old new) is.0
    (subst (λ (q : model.Reason). Adds w h (Refuse number n (model_place (place_of r)) q ∷ []) old new) is.1 adds)

-- ---- the lines of an answer

terms_same : (first second : Option Term) → terms first second ≡ plan.terms first second
terms_same first None = refl
terms_same first (Some t) = refl

refusals_as : (number n : ℕ) (place : model.Place) (o : Option Refusal) (found : Option model.Reason)
    → option_map reason o ≡ found → IsAt place o → refused_lines number n o ≡ refuse_lines number n place found
refusals_as number n place None found e at = ap (refuse_lines number n place) e
refusals_as number n place (Some r) found e at = ap (λ (p : model.Place). Refuse number n p (reason r) ∷ []) at ∙ ap
    (refuse_lines number n place) e

four : (number n frame : ℕ) (ts ts' ss ss' : List model.Term) (rs rs' : List Line) (f f' : Option Bytes) → ts ≡ ts'
    → rs ≡ rs' → ss ≡ ss' → f ≡ f'
    → map (Accept number n) ts ++ (rs ++ (map (Seal number n) ss ++ send_lines number (Some n) frame f))
    ≡ map (Accept number n) ts' ++ (rs' ++ (map (Seal number n) ss' ++ send_lines number (Some n) frame f'))
four number n frame ts ts' ss ss' rs rs' f f' one two three last =
    ap (λ (z : List model.Term). map (Accept number n) z
    ++ (rs ++ (map (Seal number n) ss ++ send_lines number (Some n) frame f))) one
    ∙ (ap (λ (z : List Line). map (Accept number n) ts'
    ++ (z ++ (map (Seal number n) ss ++ send_lines number (Some n) frame f))) two
    ∙ (ap (λ (z : List model.Term). map (Accept number n) ts'
    ++ (rs' ++ (map (Seal number n) z ++ send_lines number (Some n) frame f))) three
    ∙ ap (λ (z : Option Bytes). map (Accept number n) ts'
    ++ (rs' ++ (map (Seal number n) ss' ++ send_lines number (Some n) frame z))) last))

pub out_is : (number n frame : ℕ) (p : CorePlan) (a : Answer) → IsAnswer p a → outcome_lines number n frame p.out
    ≡ told_lines number n frame a
unfolding outcome_lines told_lines
out_is number n frame p a is =
    four number n frame (terms p.out.accepted_nwk p.out.accepted_aps) a.accepts
    (terms p.out.sealed_aps p.out.sealed_nwk) a.seals (refused_lines number n p.out.refused)
    (refuse_lines number n a.place a.refusal)
    (frame_bytes p.out.frame) a.frame (terms_same p.out.accepted_nwk p.out.accepted_aps ∙ is.accepts)
    (refusals_as number n a.place p.out.refused a.refusal is.refusal is.place)
    (terms_same p.out.sealed_aps p.out.sealed_nwk ∙ is.seals) is.frame

-- ---- whose changes they are

of_centre : (known : List Station) (n : ℕ) (e : Edit) → the_centre known ≡ n → IsOfCentre known n e
of_centre known n (Reserve l limit) is = tt
of_centre known n (Floor l key from value) is = tt
of_centre known n (Start key value) is = tt
of_centre known n (Moved (Draw key)) is = is
of_centre known n (Moved (DropNet key)) is = tt
of_centre known n (Moved (DropLink partner key)) is = tt
of_centre known n (Moved (Install key sequence)) is = tt
of_centre known n (Moved (Active key)) is = tt
of_centre known n (Moved (Row partner key a)) is = tt
of_centre known n (Moved (Pair first second key)) is = tt
of_centre known n (Moved (Became s)) is = tt
of_centre known n (Moved (Live device)) is = is
of_centre known n (Moved (Removed device)) is = is
of_centre known n (Moved (Roll sending)) is = tt
of_centre known n (Moved (Told device)) is = is
of_centre known n (Moved (Untold device)) is = is

of_others : (known : List Station) (n : ℕ) (e : Edit) → is_of_the_centre e ≡ false → IsOfCentre known n e
of_others known n (Reserve l limit) is = tt
of_others known n (Floor l key from value) is = tt
of_others known n (Start key value) is = tt
of_others known n (Moved (Draw key)) is = absurd (false≢true (sym is))
of_others known n (Moved (DropNet key)) is = tt
of_others known n (Moved (DropLink partner key)) is = tt
of_others known n (Moved (Install key sequence)) is = tt
of_others known n (Moved (Active key)) is = tt
of_others known n (Moved (Row partner key a)) is = tt
of_others known n (Moved (Pair first second key)) is = tt
of_others known n (Moved (Became s)) is = tt
of_others known n (Moved (Live device)) is = absurd (false≢true (sym is))
of_others known n (Moved (Removed device)) is = absurd (false≢true (sym is))
of_others known n (Moved (Roll sending)) is = tt
of_others known n (Moved (Told device)) is = absurd (false≢true (sym is))
of_others known n (Moved (Untold device)) is = absurd (false≢true (sym is))

no_first : (a b : Bool) → a || b ≡ false → a ≡ false
no_first true b e = e
no_first false b e = refl

no_second : (a b : Bool) → a || b ≡ false → b ≡ false
no_second true b e = absurd (false≢true (sym e))
no_second false b e = e

all_of_centre : (known : List Station) (n : ℕ) (cs : List Change) → the_centre known ≡ n → AreOfCentre known n cs
all_of_centre known n [] is = tt
all_of_centre known n (c ∷ cs) is = (of_centre known n (edit c) is, all_of_centre known n cs is)

none_of_centre : (known : List Station) (n : ℕ) (cs : List Change) → list_any is_of_the_centre (edits cs) ≡ false
    → AreOfCentre known n cs
none_of_centre known n [] is = tt
none_of_centre known n (c ∷ cs) is = (
  of_others known n (edit c) (no_first (is_of_the_centre (edit c)) (list_any is_of_the_centre (edits cs)) is),
  none_of_centre known n cs (no_second (is_of_the_centre (edit c)) (list_any is_of_the_centre (edits cs)) is),
)

pub are_of_centre : (known : List Station) (n : ℕ) (cs : List Change) (b : Bool) → (b ≡ true → the_centre known ≡ n)
    → (b ≡ false → list_any is_of_the_centre (edits cs) ≡ false) → AreOfCentre known n cs
are_of_centre known n cs true own others = all_of_centre known n cs (own refl)
are_of_centre known n cs false own others = none_of_centre known n cs (others refl)

-- ---- a fall

pub fallen_is : (number n : ℕ) (armed : Armed) (calls : Calls) (fall : Fall) → falls armed calls ≡ true → fall
    ≡ fall_of armed → fallen_line armed number n ≡ fall_line fall number n ∷ []
fallen_is number n NotArmed calls fall fell is = absurd (false≢true fell)
fallen_is number n (StopAfter k torn) calls fall fell is = ap (λ (f : Fall). fall_line f number n ∷ []) (sym is)
fallen_is number n (FailAt k) calls fall fell is = ap (λ (f : Fall). fall_line f number n ∷ []) (sym is)

pub fall_declares : (fall : Fall) (number n : ℕ) → declares_node (fall_line fall number n) ≡ false
fall_declares stopped number n = refl
fall_declares failed number n = refl

pub kept_lines : (number n : ℕ) (b : Bool) (es found : List Edit) → found ≡ (if b then es else [])
    → lines_of_edits number n found ≡ (if b then lines_of_edits number n es else [])
kept_lines number n true es found e = ap (lines_of_edits number n) e
kept_lines number n false es found e = ap (lines_of_edits number n) e

pub none_kept : (b : Bool) (es found : List Edit) → found ≡ (if b then es else []) → list_any is_of_the_centre es
    ≡ false → list_any is_of_the_centre found ≡ false
none_kept true es found e none = ap (list_any is_of_the_centre) e ∙ none
none_kept false es found e none = ap (list_any is_of_the_centre) e
