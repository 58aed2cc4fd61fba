-- A run whose nodes are given other disks. It carries the condition of each node; a swap sets its node's condition
-- from what is on the new disk. Without swaps it is the model's run.
use Rattle.std.specs.Prelude.{◌≡◌, ℕ, ◌+◌, Bool, if◌then◌else◌, nat_eq, List, [], ◌∷◌, ◌++◌, length, Option, Some, None}
use Rattle.law_run_steps.specs.Conditions.{Condition, condition_of}
use Rattle.law_run_steps.specs.Turns.{event_turn}
use Rattle.zb_model.specs.Lines.{Line}
use Rattle.zb_model.specs.Play.{Schedule, Event, Own, RollOver, Deliver, Reset, PowerOn, ShowRecord, ArmStop, ArmFail, start, step}
use Rattle.zb_model.specs.State.{NodeState}
use Rattle.zb_model.specs.Tools.{Tools}
use Rattle.zb_model.specs.Transcript.{end_line}

-- What is on a disk that replaces another one: the state with which its node boots from it, how many commits its
-- entries count for, and whether both slots are open.
pub record Stood : Type 0 where
  pub state : NodeState
  pub commits : ℕ
  pub both_open : Bool

-- What the node armed stays armed, and it has power or not as before.
abbrev pub after_swap : Option Stood → Condition → Condition
after_swap None x = x
after_swap (Some s) x =
    record x {
      state = s.state;
      commits = s.commits;
      disk = record { armed = x.disk.armed; both_open = s.both_open };
    }

-- the node that an event is of; an event of the outside is of no node
abbrev pub node_of : Event → Option ℕ
node_of (Own n task) = Some n
node_of (RollOver n) = Some n
node_of (Deliver frame n) = Some n
node_of (Reset n) = Some n
node_of (PowerOn n) = Some n
node_of (ShowRecord n) = Some n
node_of (ArmStop n calls torn) = Some n
node_of (ArmFail n call) = Some n
node_of _ = None

-- ---- the conditions of all nodes, by their EUIs

abbrev pub with_condition : (ℕ → Condition) → ℕ → Condition → ℕ → Condition
with_condition xs n x m = if nat_eq m n then x else xs m

-- the node has this disk now, if one is given
abbrev pub swapped : Option Stood → (ℕ → Condition) → Option ℕ → ℕ → Condition
swapped gift xs (Some n) = with_condition xs n (after_swap gift (xs n))
swapped gift xs None = xs

-- the lines of an event, and the conditions of all nodes after it
pub record Passed : Type 0 where
  pub lines : List Line
  pub nodes : ℕ → Condition

-- An event of a node is its turn; an event of the outside reads no disk.
abbrev pub passed : Tools → Schedule → List Line → (ℕ → Condition) → ℕ → Event → Option ℕ → Passed
passed tools w h xs number event (Some n) =
    let t = event_turn tools w h (xs n) number event in
    record { lines = t.lines; nodes = with_condition xs n t.left }
passed tools w h xs number event None = record { lines = (step tools w h [] number event).lines; nodes = xs }

-- ---- a run

-- An event, after the swap for its node: `gifts` has the disk that is given before the event of each number.
abbrev pub one_passed : Tools → Schedule → (ℕ → Option Stood) → List Line → (ℕ → Condition) → ℕ → Event → Passed
one_passed tools w gifts h xs number event =
    passed tools w h (swapped (gifts number) xs (node_of event)) number event (node_of event)

-- the lines of these events, from the event of that number on
unfoldable pub swapped_groups : Tools → Schedule → (ℕ → Option Stood) → List Line → (ℕ → Condition) → ℕ → List Event
    → List Line
swapped_groups tools w gifts h xs number [] = []
swapped_groups tools w gifts h xs number (event ∷ events) =
    let g = one_passed tools w gifts h xs number event in
    g.lines ++ swapped_groups tools w gifts (h ++ g.lines) g.nodes (number + 1) events

-- the conditions in which the start lines leave the nodes
abbrev pub first_nodes : Schedule → ℕ → Condition
first_nodes w n = condition_of w (start w) [] n

unfoldable pub swapped_lines : Tools → Schedule → (ℕ → Option Stood) → List Line
swapped_lines tools w gifts = start w ++ swapped_groups tools w gifts (start w) (first_nodes w) 1 w.events

-- The transcript of a schedule whose nodes are given these disks: start lines, lines of the events, end line.
unfoldable pub swapped_transcript : Tools → Schedule → (ℕ → Option Stood) → List Line
swapped_transcript tools w gifts = swapped_lines tools w gifts
    ++ end_line tools (length w.events) (swapped_lines tools w gifts) ∷ []

-- no disk is given
abbrev pub GivesNone : (ℕ → Option Stood) → Type 0
GivesNone gifts = (number : ℕ) → gifts number ≡ None
