-- The changes so far are told.
use Rattle.std.proofs.Common.{◌≤◌, ℕ, ◌+◌, List, take}
use Rattle.zb_model.specs.Data.{Station}
use Rattle.zb_model.specs.Play.{change_lines}
use Rattle.zb_node_types.specs.Changes.{edits}
use Rattle.zb_trace_model.specs.AnswerLines.{AreOfCentre}
use Rattle.zb_trace_model.specs.Naming.{IsCalled}
use Rattle.zb_trace_model.proofs.answer.tell_changes.Given as goal

abbrev pub invariant-loop-change : goal.invariant-loop-change
invariant-loop-change g l =
    ((known : List Station) (n : ℕ) → IsCalled known n l.group.node.bytes → AreOfCentre known n l.changes
    → g.T.Teller.Tells known (change_lines l.group.event n (edits (take l.change-index l.changes))) l.initial.to l.to)
    × (g.T.Teller.told l.to ≤ g.T.Teller.told l.initial.to + l.change-index)
