-- What the centre alone makes, as a test on changes.
use Rattle.std.proofs.Common.{◌≡◌, ℕ, Bool, true, false, cond, ◌||◌, List, [], ◌∷◌, ◌++◌, filter, flat_map, Option, Some, None, option_map, option_to_list, refl, ap, ◌∙◌}
use Rattle.std.specs.List.{AllByRecursion, list_any}
use Rattle.zb_model.specs.Data.{Bytes, Layer, Nwk, Aps, Term, Move, Draw, DropNet, DropLink, Install, Active, Row, Pair, Became, Live, Removed, Roll, Told, Untold, Edit, Reserve, Floor, Task}
use Rattle.zb_model.specs.State.{NodeState, is_centre}
use Rattle.zb_model.specs.Tools.{Tools}
use Rattle.zb_model.specs.Rules.{Setting, Plan}
use Rattle.zb_model.specs.Answer.{Counting, answer, answer_by, plan_of, counting_of, moves_of, start_edit, move_edits, reserve_edit, floor_edit, changes, edits_of}
use Rattle.law_run.proofs.FreshLines.{all-append}
use Rattle.law_run.proofs.LockoutDeeds.{OfMember}
use Rattle.law_run_steps.specs.Steps.{is_of_the_centre}
use Rattle.law_run_steps.proofs.Members.{PlanOf, plan-of}

abbrev OfOthers : Edit → Type 0
OfOthers e = is_of_the_centre e ≡ false

reserve-of : (layer : Layer) (o : Option ℕ) → AllByRecursion OfOthers (option_to_list (option_map (Reserve layer) o))
reserve-of layer None = tt
reserve-of layer (Some v) = (refl, tt)

floor-of : (t : Term) (o : Option ℕ)
    → AllByRecursion OfOthers (option_to_list (option_map (Floor t.layer t.base t.source) o))
floor-of t None = tt
floor-of t (Some v) = (refl, tt)

floors-of : (k : Counting) (ts : List Term) → AllByRecursion OfOthers (flat_map (floor_edit k) ts)
floors-of k [] = tt
floors-of k (t ∷ ts) = all-append OfOthers (floor_edit k t) (flat_map (floor_edit k) ts)
    (floor-of t (k.floor t.layer)) (floors-of k ts)

start-of : (key : Bytes) (o : Option ℕ) → AllByRecursion OfOthers (start_edit key o)
start-of key None = tt
start-of key (Some v) = (refl, tt)

move-of : (k : Counting) (m : Move) → OfMember m → AllByRecursion OfOthers (move_edits k m)
move-of k (Active key) a = (refl, start-of key k.start)
move-of k (DropNet key) a = (refl, tt)
move-of k (DropLink p key) a = (refl, tt)
move-of k (Install key q) a = (refl, tt)
move-of k (Row p key t) a = (refl, tt)
move-of k (Became g) a = (refl, tt)
move-of k (Draw key) a = absurd a
move-of k (Pair u v key) a = absurd a
move-of k (Live d) a = absurd a
move-of k (Removed d) a = absurd a
move-of k (Roll b) a = absurd a
move-of k (Told d) a = absurd a
move-of k (Untold d) a = absurd a

all-moves-of : (s : NodeState) (k : Counting) (ms : List Move) → AllByRecursion OfMember ms
    → AllByRecursion OfOthers (flat_map (move_edits k) (filter (changes s) ms))
all-moves-of s k [] a = tt
all-moves-of s k (m ∷ ms) a = by-test (changes s m) (all-moves-of s k ms a.1)
  where
    by-test : (b : Bool) → AllByRecursion OfOthers (flat_map (move_edits k) (filter (changes s) ms))
        → AllByRecursion OfOthers
        (flat_map (move_edits k) (cond b (m ∷ filter (changes s) ms) (filter (changes s) ms)))
    by-test true rest = all-append OfOthers (move_edits k m) (flat_map (move_edits k) (filter (changes s) ms))
        (move-of k m a.0) rest
    by-test false rest = rest

plan-edits : (s : NodeState) (k : Counting) (p : Plan) → PlanOf p → AllByRecursion OfOthers (edits_of s k p)
unfolding edits_of
plan-edits s k p a =
    all-append OfOthers (reserve_edit k Nwk ++ reserve_edit k Aps)
    (flat_map (floor_edit k) p.accepts ++ flat_map (move_edits k) (filter (changes s) (moves_of p.outcome)))
    (all-append OfOthers (reserve_edit k Nwk) (reserve_edit k Aps) (reserve-of Nwk (k.reserve Nwk))
    (reserve-of Aps (k.reserve Aps)))
    (all-append OfOthers (flat_map (floor_edit k) p.accepts)
    (flat_map (move_edits k) (filter (changes s) (moves_of p.outcome))) (floors-of k p.accepts)
    (all-moves-of s k (moves_of p.outcome) a))

none-of : (es : List Edit) → AllByRecursion OfOthers es → list_any is_of_the_centre es ≡ false
none-of [] a = refl
none-of (e ∷ es) a = ap (λ b. b || list_any is_of_the_centre es) a.0 ∙ none-of es a.1

pub none-of-others : (tools : Tools) (c : Setting) (s : NodeState) (task : Task) → is_centre c.me.role ≡ false
    → list_any is_of_the_centre (answer tools c s task).edits ≡ false
unfolding answer answer_by
none-of-others tools c s task e =
    none-of (answer tools c s task).edits
    (plan-edits s (counting_of c s (plan_of tools c s task)) (plan_of tools c s task) (plan-of tools c s task e))
