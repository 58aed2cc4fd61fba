use Rattle.std.proofs.Common.{◌-◌, ◌≤◌}
use Rattle.zb_inspect.proofs.JoinLaws.{IsLooked}
use Rattle.zb_inspect.proofs.first.look_first.Given as goal

abbrev pub invariant-loop-done : goal.invariant-loop-done
invariant-loop-done l =
    IsLooked l.frames l.addrs l.keys l.first l.done l.initial.leads.items l.blocks.items l.leads.items
    × (l.done ≤ l.count)

abbrev pub decreases-loop-done : goal.decreases-loop-done
decreases-loop-done l = l.count - l.done
