-- If no disk is given, a run is the model's.
use Rattle.std.proofs.Common.{◌≡◌, ℕ, ◌+◌, Bool, true, false, cond, nat_eq, eq-eqb, eqb-true, List, [], ◌∷◌, ◌++◌, length, Option, Some, None, refl, sym, ap, ◌∙◌}
use Rattle.law_run_steps.proofs.Spared.{spared}
use Rattle.law_run_steps.specs.Conditions.{Condition, condition_of}
use Rattle.law_run_steps.specs.Steps.{is_of}
use Rattle.law_run_steps.proofs.Turns.{other_node, outside_step, step_comes}
use Rattle.law_run_steps.specs.Swaps.{GivesNone, Passed, Stood, after_swap, first_nodes, node_of, one_passed, passed, swapped, swapped_groups, swapped_lines, swapped_transcript, with_condition}
use Rattle.law_run_steps.specs.Turns.{event_turn}
use Rattle.zb_model.specs.Lines.{Line}
use Rattle.zb_model.specs.Play as play
use Rattle.zb_model.specs.Play.{Disk, Event, Schedule, Step, groups, start, step}
use Rattle.zb_model.specs.Tools.{Tools}
use Rattle.zb_model.specs.Transcript.{end_line, run_lines, transcript}

-- Conditions are those that lines give.
abbrev pub AreThose : Schedule → List Line → List Disk → (ℕ → Condition) → Type 0
AreThose w h ds xs = (q : ℕ) → xs q ≡ condition_of w h ds q

-- ---- conditions that are set

pub if_same : (b : Bool) (x y : Condition) → b ≡ true → cond b x y ≡ x
if_same true x y e = refl
if_same false x y e = absurd (cc)

pub if_other : (b : Bool) (x y : Condition) → b ≡ false → cond b x y ≡ y
if_other true x y e = absurd (cc)
if_other false x y e = refl

-- set to its own value
pub set_same : (xs : ℕ → Condition) (n m : ℕ) (x : Condition) → x ≡ xs n → with_condition xs n x m ≡ xs m
set_same xs n m x same = by_test (nat_eq m n) refl
  where
    by_test : (b : Bool) → nat_eq m n ≡ b → with_condition xs n x m ≡ xs m
    by_test true e = if_same (nat_eq m n) x (xs m) e ∙ same ∙ ap xs (sym (eqb-true m n e))
    by_test false e = if_other (nat_eq m n) x (xs m) e

unswapped : (gift : Option Stood) (xs : ℕ → Condition) (o : Option ℕ) (q : ℕ) → gift ≡ None
    → swapped gift xs o q ≡ xs q
unswapped gift xs None q none = refl
unswapped gift xs (Some n) q none =
    set_same xs n q (after_swap gift (xs n)) (ap (λ (g : Option Stood). after_swap g (xs n)) none)

-- ---- whose an event is

same_node : (m n : ℕ) → Some m ≡ Some n → nat_eq m n ≡ true
same_node m n e = let same : m ≡ n = cc in eq-eqb m n same

of_node : (event : Event) (n : ℕ) → node_of event ≡ Some n → is_of n event ≡ true
of_node (play.Own m task) n e = same_node m n e
of_node (play.RollOver m) n e = same_node m n e
of_node (play.Deliver frame m) n e = same_node m n e
of_node (play.Reset m) n e = same_node m n e
of_node (play.PowerOn m) n e = same_node m n e
of_node (play.ShowRecord m) n e = same_node m n e
of_node (play.ArmStop m calls torn) n e = same_node m n e
of_node (play.ArmFail m call) n e = same_node m n e
of_node (play.InjectBytes bytes) n e = absurd (cc)
of_node (play.ForgeNet to from source key sequence counter content) n e = absurd (cc)
of_node (play.ForgeNetAps to from source key sequence counter label base aps_counter command) n e = absurd (cc)
of_node (play.ForgeOpen to from source label base aps_counter command) n e = absurd (cc)

of_none : (event : Event) (q : ℕ) → node_of event ≡ None → is_of q event ≡ false
of_none (play.Own m task) q e = absurd (cc)
of_none (play.RollOver m) q e = absurd (cc)
of_none (play.Deliver frame m) q e = absurd (cc)
of_none (play.Reset m) q e = absurd (cc)
of_none (play.PowerOn m) q e = absurd (cc)
of_none (play.ShowRecord m) q e = absurd (cc)
of_none (play.ArmStop m calls torn) q e = absurd (cc)
of_none (play.ArmFail m call) q e = absurd (cc)
of_none (play.InjectBytes bytes) q e = refl
of_none (play.ForgeNet to from source key sequence counter content) q e = refl
of_none (play.ForgeNetAps to from source key sequence counter label base aps_counter command) q e = refl
of_none (play.ForgeOpen to from source label base aps_counter command) q e = refl

-- ---- one event

-- The event is the model's step.
pub record IsStep (w : Schedule) (h : List Line) (g : Step) (one : Passed) : Type 0 where
  pub lines_are : one.lines ≡ g.lines
  pub nodes_are : AreThose w (h ++ g.lines) g.disks one.nodes

node_step : (tools : Tools) (w : Schedule) (h : List Line) (ds : List Disk) (xs : ℕ → Condition) (number n : ℕ)
    (event : Event) → AreThose w h ds xs → is_of n event ≡ true
    → IsStep w h (step tools w h ds number event) (passed tools w h xs number event (Some n))
node_step tools w h ds xs number n event those is =
    record { lines_are = same; nodes_are = λ q. by_test q (nat_eq q n) refl }
  where
    g : Step
    g = step tools w h ds number event

    same : (event_turn tools w h (xs n) number event).lines ≡ g.lines
    same = ap (λ (x : Condition). (event_turn tools w h x number event).lines) (those n)
        ∙ sym (step_comes tools w h ds number n event is).lines

    by_test : (q : ℕ) (b : Bool) → nat_eq q n ≡ b
        → with_condition xs n (event_turn tools w h (xs n) number event).left q
        ≡ condition_of w (h ++ g.lines) g.disks q
    by_test q true e =
        if_same (nat_eq q n) (event_turn tools w h (xs n) number event).left (xs q) e
        ∙ ap (λ (x : Condition). (event_turn tools w h x number event).left) (those n)
        ∙ sym (step_comes tools w h ds number n event is).condition
        ∙ ap (λ k. condition_of w (h ++ g.lines) g.disks k) (sym (eqb-true q n e))
    by_test q false e =
        if_other (nat_eq q n) (event_turn tools w h (xs n) number event).left (xs q) e
        ∙ those q ∙ sym (spared tools w h ds number event q (other_node n q event is e))

outside_passed : (tools : Tools) (w : Schedule) (h : List Line) (ds : List Disk) (xs : ℕ → Condition) (number : ℕ)
    (event : Event) → AreThose w h ds xs → ((q : ℕ) → is_of q event ≡ false)
    → IsStep w h (step tools w h ds number event) (passed tools w h xs number event None)
outside_passed tools w h ds xs number event those none =
    record {
      lines_are = (outside_step tools w h ds number event none).lines;
      nodes_are = λ q. those q ∙ sym (spared tools w h ds number event q (none q));
    }

pub passed_step : (tools : Tools) (w : Schedule) (h : List Line) (ds : List Disk) (xs : ℕ → Condition) (number : ℕ)
    (event : Event) (o : Option ℕ) → node_of event ≡ o → AreThose w h ds xs
    → IsStep w h (step tools w h ds number event) (passed tools w h xs number event o)
passed_step tools w h ds xs number event None none those =
    outside_passed tools w h ds xs number event those (λ q. of_none event q none)
passed_step tools w h ds xs number event (Some n) found those =
    node_step tools w h ds xs number n event those (of_node event n found)

one_step : (tools : Tools) (w : Schedule) (gifts : ℕ → Option Stood) (h : List Line) (ds : List Disk)
    (xs : ℕ → Condition) (number : ℕ) (event : Event) → GivesNone gifts → AreThose w h ds xs
    → IsStep w h (step tools w h ds number event) (one_passed tools w gifts h xs number event)
one_step tools w gifts h ds xs number event gives those =
    passed_step tools w h ds (swapped (gifts number) xs (node_of event)) number event (node_of event) refl
    (λ q. unswapped (gifts number) xs (node_of event) q (gives number) ∙ those q)

-- ---- all events

are_groups : (tools : Tools) (w : Schedule) (gifts : ℕ → Option Stood) (h : List Line) (ds : List Disk)
    (xs : ℕ → Condition) (number : ℕ) (events : List Event) → GivesNone gifts → AreThose w h ds xs
    → swapped_groups tools w gifts h xs number events ≡ groups tools w h ds number events
unfolding swapped_groups groups
are_groups tools w gifts h ds xs number [] gives those = refl
are_groups tools w gifts h ds xs number (event ∷ events) gives those =
    let g = step tools w h ds number event in
    let one = one_passed tools w gifts h xs number event in
    let first = one_step tools w gifts h ds xs number event gives those in
    ap (λ (ls : List Line). ls ++ swapped_groups tools w gifts (h ++ ls) one.nodes (number + 1) events) first.lines_are
    ∙ ap (λ (ls : List Line). g.lines ++ ls)
    (are_groups tools w gifts (h ++ g.lines) g.disks one.nodes (number + 1) events gives first.nodes_are)

pub lines_unswapped : (tools : Tools) (w : Schedule) (gifts : ℕ → Option Stood) → GivesNone gifts
    → swapped_lines tools w gifts ≡ run_lines tools w
unfolding swapped_lines run_lines
lines_unswapped tools w gifts gives =
    ap (λ (ls : List Line). start w ++ ls)
    (are_groups tools w gifts (start w) [] (first_nodes w) 1 w.events gives (λ q. refl))

pub transcript_unswapped : (tools : Tools) (w : Schedule) (gifts : ℕ → Option Stood) → GivesNone gifts
    → swapped_transcript tools w gifts ≡ transcript tools w
unfolding swapped_transcript transcript
transcript_unswapped tools w gifts gives =
    ap (λ (ls : List Line). ls ++ end_line tools (length w.events) ls ∷ []) (lines_unswapped tools w gifts gives)
