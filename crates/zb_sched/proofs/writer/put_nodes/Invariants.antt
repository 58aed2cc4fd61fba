use Rattle.std.proofs.Common.{◌≡◌, ◌++◌, take, map}
use Rattle.zb_text.specs.Pages.{page}
use Rattle.zb_sched.specs.Schedules.{node_of}
use Rattle.zb_sched.specs.Printed.{node_line}
use Rattle.zb_sched.specs.declared.schedule.Node.{Node}
use Rattle.zb_sched.proofs.writer.put_nodes.Given as goal

abbrev pub invariant-loop-node : goal.invariant-loop-node
invariant-loop-node l = l.out.items ≡ l.initial.out.items
    ++ page (map (λ (x : Node). node_line (node_of x)) (take l.node-index l.nodes))
