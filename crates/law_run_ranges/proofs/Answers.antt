-- What an answer stores, accepts, refuses for, seals and sends is in its range.
use Rattle.std.proofs.Common.{◌≡◌, ℕ, ◌+◌, ◌<◌, ◌≤◌, min, Bool, true, false, cond, ◌&&◌, nat_eq, nat_le, List, [], ◌∷◌, ◌++◌, filter, length, flat_map, Option, Some, None, IfSome, option_map, refl, arith, leb-false}
use Rattle.std.specs.List.{AllByRecursion}
use Rattle.std.specs.Prelude.{option_to_list}
use Rattle.zb_model.specs.Answer.{Answer, answer, answer_by, Counting, counting_of, plan_of, reserve_of, reserve_edit, floor_edit, floor_for, floor_of, half, first_counter, start_for, start_edit, move_edits, changes, edits_of, moves_of, sending_of, reason_of, is_started_key, seals_at, may_seal, stored_floor, activated}
use Rattle.zb_model.specs.Data.{Bytes, Layer, Nwk, Aps, Term, Move, Draw, DropNet, DropLink, Install, Active, Row, Pair, Became, Live, Removed, Roll, Told, Untold, Reserve, Floor, Task}
use Rattle.zb_model.specs.Rules.{Outcome, Stop, Does, Plan, Setting, Sending}
use Rattle.zb_model.specs.State.{greatest_counter, NodeState, next_counter, stored_limit, same_layer}
use Rattle.zb_model.specs.Tools.{Tools}
use Rattle.law_run.proofs.FreshLines.{all-append}
use Rattle.law_answer_seals.specs.Sealing.{AreHeard, AreSeals}
use Rattle.law_answer_seals.proofs.Heard.{answer_hears, answer_below_last}
use Rattle.law_answer_seals.proofs.SealLayers.{answer_seals}
use Rattle.law_answer_storable.specs.Storing.{OpensAsJudged}
use Rattle.law_run_ranges.specs.Asking.{TaskInRange, KeepsRanges}
use Rattle.law_run_ranges.specs.Ranges.{IsCount, IsShort, IsKey, TermInRange, MoveInRange, EditInRange, ReasonInRange}
use Rattle.law_run_ranges.proofs.Frames.{out_in}
use Rattle.law_run_ranges.proofs.Judged.{PlanInRange, plan_in}
use Rattle.law_run_ranges.proofs.Lists.{filtered}
use Rattle.law_run_ranges.proofs.Outcomes.{OutcomeInRange, SendingInRange, SettingInRange}
use Rattle.law_run_ranges.proofs.States.{StateInRange}

-- ---- counters

if_count : (b : Bool) (x y : Option ℕ) → IfSome x IsCount → IfSome y IsCount → IfSome (cond b x y) IsCount
if_count true x y p q = p
if_count false x y p q = q

reserve_in : (c : Setting) (s : NodeState) (send : Option Sending) (l : Layer) → IfSome (reserve_of c s send l) IsCount
unfolding reserve_of
reserve_in c s send l =
    if_count (seals_at l send && (may_seal s send && nat_eq (next_counter l s) (stored_limit l s)))
    (Some (min (next_counter l s + c.me.out_block) greatest_counter)) None (omega arith) tt

floor_in : (c : Setting) (s : NodeState) (ts : List Term) (l : Layer) → IfSome (floor_of c s ts l) IsCount
unfolding floor_of
floor_in c s [] l = tt
floor_in c s (t ∷ ts) l =
    if_count (same_layer t.layer l) (floor_for c s t) (floor_of c s ts l)
    (if_count (nat_le (stored_floor t s) t.counter) (Some (min (t.counter + c.me.in_block) greatest_counter)) None
    (omega arith) tt) (floor_in c s ts l)

half_in : (n : ℕ) (b : Bool) → nat_le half n ≡ b → IsCount (cond b 0 n)
half_in n true e = omega arith
half_in n false e = omega (arith, leb-false half n e)

start_in : (s : NodeState) (o : Option Bytes) → IfSome (start_for s o) IsCount
start_in s None = tt
start_in s (Some key) = if_count (is_started_key s key) None (Some (first_counter s)) tt
    (half_in (next_counter Nwk s) (nat_le half (next_counter Nwk s)) refl)

-- ---- what is stored

reserve_list : (l : Layer) (o : Option ℕ) → IfSome o IsCount
    → AllByRecursion EditInRange (option_to_list (option_map (Reserve l) o))
reserve_list l None is = tt
reserve_list l (Some n) is = (is, tt)

floor_list : (t : Term) (o : Option ℕ) → TermInRange t → IfSome o IsCount
    → AllByRecursion EditInRange (option_to_list (option_map (Floor t.layer t.base t.source) o))
floor_list t None is n = tt
floor_list t (Some value) is n = ((is.base, is.source, n), tt)

floors_in : (k : Counting) (ts : List Term) → ((l : Layer) → IfSome (k.floor l) IsCount)
    → AllByRecursion TermInRange ts → AllByRecursion EditInRange (flat_map (floor_edit k) ts)
floors_in k [] n all = tt
floors_in k (t ∷ ts) n all = all-append EditInRange (floor_edit k t) (flat_map (floor_edit k) ts)
    (floor_list t (k.floor t.layer) all.0 (n t.layer)) (floors_in k ts n all.1)

start_list : (key : Bytes) (o : Option ℕ) → IsKey key → IfSome o IsCount
    → AllByRecursion EditInRange (start_edit key o)
start_list key None k n = tt
start_list key (Some value) k n = ((k, n), tt)

move_in : (k : Counting) (m : Move) → IfSome k.start IsCount → MoveInRange m
    → AllByRecursion EditInRange (move_edits k m)
move_in k (Active key) n m = (m, start_list key k.start m n)
move_in k (Draw key) n m = (m, tt)
move_in k (DropNet key) n m = (m, tt)
move_in k (DropLink p key) n m = (m, tt)
move_in k (Install key q) n m = (m, tt)
move_in k (Row p key a) n m = (m, tt)
move_in k (Pair u v key) n m = (m, tt)
move_in k (Became g) n m = (m, tt)
move_in k (Live d) n m = (m, tt)
move_in k (Removed d) n m = (m, tt)
move_in k (Roll b) n m = (m, tt)
move_in k (Told d) n m = (m, tt)
move_in k (Untold d) n m = (m, tt)

moves_in : (k : Counting) (ms : List Move) → IfSome k.start IsCount → AllByRecursion MoveInRange ms
    → AllByRecursion EditInRange (flat_map (move_edits k) ms)
moves_in k [] n all = tt
moves_in k (m ∷ ms) n all = all-append EditInRange (move_edits k m) (flat_map (move_edits k) ms) (move_in k m n all.0)
    (moves_in k ms n all.1)

moves_of_in : (o : Outcome) → OutcomeInRange o → AllByRecursion MoveInRange (moves_of o)
moves_of_in (Stop reason) is = tt
moves_of_in (Does moves sending) is = is.0

sending_in : (o : Outcome) → OutcomeInRange o → IfSome (sending_of o) SendingInRange
sending_in (Stop reason) is = tt
sending_in (Does moves sending) is = is.1

reason_in : (o : Outcome) → OutcomeInRange o → IfSome (reason_of o) ReasonInRange
reason_in (Stop reason) is = is
reason_in (Does moves sending) is = tt

edits_in : (c : Setting) (s : NodeState) (p : Plan) → PlanInRange p
    → AllByRecursion EditInRange (edits_of s (counting_of c s p) p)
unfolding edits_of counting_of
edits_in c s p is =
    let k = counting_of c s p in
    let send = sending_of p.outcome in
    all-append EditInRange (reserve_edit k Nwk ++ reserve_edit k Aps) _
    (all-append EditInRange (reserve_edit k Nwk) (reserve_edit k Aps)
    (reserve_list Nwk (k.reserve Nwk) (reserve_in c s send Nwk))
    (reserve_list Aps (k.reserve Aps) (reserve_in c s send Aps)))
    (all-append EditInRange (flat_map (floor_edit k) p.accepts) _
    (floors_in k p.accepts (λ l. floor_in c s p.accepts l) is.0)
    (moves_in k (filter (changes s) (moves_of p.outcome))
    (start_in s (activated s (filter (changes s) (moves_of p.outcome))))
    (filtered MoveInRange (changes s) (moves_of p.outcome) (moves_of_in p.outcome is.1))))

-- ---- the answer

abbrev pub AcceptInRange : Term → Type 0
AcceptInRange t = TermInRange t × (t.counter < 4294967295)

pub record AnswerInRange (a : Answer) : Type 0 where
  pub edits : AllByRecursion EditInRange a.edits
  pub accepts : AllByRecursion AcceptInRange a.accepts
  pub refusal : IfSome a.refusal ReasonInRange
  pub seals : AllByRecursion TermInRange a.seals
  pub frame : IfSome a.frame IsShort
  pub few_accepts : length a.accepts ≤ 2
  pub few_seals : length a.seals ≤ 2

accepts_in : (ts : List Term) → AllByRecursion TermInRange ts
    → AllByRecursion (λ (t : Term). t.counter < greatest_counter) ts → AllByRecursion AcceptInRange ts
accepts_in [] all below = tt
accepts_in (t ∷ ts) all below = ((all.0, below.0), accepts_in ts all.1 below.1)

two_heard : (ts : List Term) → AreHeard ts → length ts ≤ 2
two_heard [] is = omega arith
two_heard (t ∷ []) is = omega arith
two_heard (t ∷ u ∷ []) is = omega arith
two_heard (t ∷ u ∷ v ∷ ts) is = absurd is

two_sealed : (c : Setting) (s : NodeState) (ts : List Term) → AreSeals c s ts → length ts ≤ 2
two_sealed c s [] is = omega arith
two_sealed c s (t ∷ []) is = omega arith
two_sealed c s (t ∷ u ∷ []) is = omega arith
two_sealed c s (t ∷ u ∷ v ∷ ts) is = absurd is

pub answer_in : (tools : Tools) (c : Setting) (s : NodeState) (task : Task) → OpensAsJudged tools → KeepsRanges tools
    → SettingInRange c → StateInRange s → IsCount (length s.nets) → TaskInRange task
    → AnswerInRange (answer_by tools c s (counting_of c s (plan_of tools c s task)) (plan_of tools c s task))
unfolding answer answer_by counting_of
answer_in tools c s task opens keeps at is few t =
    let p = plan_of tools c s task in
    let k = counting_of c s p in
    let plan = plan_in tools c s task keeps at is few t in
    let out = out_in tools c s k (sending_of p.outcome) keeps at is (λ l. refl) (sending_in p.outcome plan.1) in
    record {
      edits = edits_in c s p plan;
      accepts = accepts_in p.accepts plan.0 (answer_below_last tools opens c s task);
      refusal = reason_in p.outcome plan.1;
      seals = out.seals;
      frame = out.frame;
      few_accepts = two_heard p.accepts (answer_hears tools opens c s task);
      few_seals = two_sealed c s _ (answer_seals tools c s task);
    }
