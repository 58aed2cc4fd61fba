use Rattle.std.proofs.Common.{◌≡◌, drop}
use Rattle.zb_node_types.specs.Changes.{edits}
use Rattle.zb_plan.specs.Settling.{active_in}
use Rattle.zb_plan.proofs.settling.activated.Given as goal

abbrev pub invariant-loop-change : goal.invariant-loop-change
invariant-loop-change l = active_in l.tables (edits l.made) ≡ active_in l.tables (edits (drop l.change-index l.made))
