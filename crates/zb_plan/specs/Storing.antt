-- The parts of what an answer stores, without a choice of counters.
use Rattle.std.specs.Prelude.{ℕ, ◌+◌, ◌++◌, min, if◌then◌else◌, List, [], nat_le, Option, Some, None, option_map, option_to_list, flat_map}
use Rattle.zb_counter.specs.declared.receiving.Judge.{Judge}
use Rattle.zb_counter.specs.declared.receiving.Judge.TheVariants as judge
use Rattle.zb_model.specs.Answer.{comes_to, floor_for, reserve_of, start_for}
use Rattle.zb_model.specs.Data.{Aps, AtEvent, Edit, Floor, Layer, Nwk, Reserve, Term}
use Rattle.zb_model.specs.Rules.{Outcome, Plan, Sending, Setting}
use Rattle.zb_model.specs.State.{NodeState, greatest_counter}
use Rattle.zb_plan.specs.Settling.{active_in, settled}

-- the floor that a judgement stores; the greatest counter has none above it
abbrev pub stored_by : Judge → Option ℕ
stored_by (judge.Fresh store_to) = store_to
stored_by (judge.Stale floor) = None
stored_by judge.Max = Some greatest_counter

-- the floor that is stored for a counter, unless it is below the stored one
abbrev pub floor_above : ℕ → ℕ → ℕ → Option ℕ
floor_above stored counter block =
    if nat_le stored counter then Some (min (counter + block) greatest_counter) else None

-- the floor of an accepted term
abbrev pub floor_edits : Setting → NodeState → Term → List Edit
floor_edits c s t = option_to_list (option_map (Floor t.layer t.base t.source) (floor_for c s t))

-- the limit that a frame reserves at a layer
abbrev pub reserve_edits : Setting → NodeState → Option Sending → Layer → List Edit
reserve_edits c s send layer = option_to_list (option_map (Reserve layer) (reserve_of c s send layer))

-- all that is stored: reserves, floors, and the changes of the rule
abbrev pub stored_edits : Setting → NodeState → List Term → List Edit → Option Sending → List Edit
stored_edits c s accepts moves send =
    (reserve_edits c s send Nwk ++ reserve_edits c s send Aps)
    ++ (flat_map (floor_edits c s) accepts ++ settled s (start_for s (active_in s moves)) moves)

-- the plan of an event of the node's own, which accepts nothing
abbrev pub own_plan : Outcome → Plan
own_plan o = comes_to [] AtEvent o
