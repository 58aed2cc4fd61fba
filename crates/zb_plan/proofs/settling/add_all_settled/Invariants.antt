use Rattle.std.proofs.Common.{◌≡◌, ◌≤◌, ◌+◌, ◌*◌, ◌++◌, drop, length}
use Rattle.zb_node_types.specs.Changes.{edits}
use Rattle.zb_plan.specs.Settling.{settled}
use Rattle.zb_plan.proofs.settling.add_all_settled.Given as goal

abbrev pub invariant-loop-change : goal.invariant-loop-change
invariant-loop-change l =
    (edits l.changes.items ++ settled l.tables l.start (edits (drop l.change-index l.made))
    ≡ edits l.initial.changes.items ++ settled l.tables l.start (edits l.made))
    × (length l.changes.items ≤ length l.initial.changes.items + 2 * l.change-index)
