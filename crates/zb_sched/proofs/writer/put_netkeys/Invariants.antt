use Rattle.std.proofs.Common.{◌≡◌, ◌++◌, take}
use Rattle.std.specs.List.{flat_map}
use Rattle.zb_text.specs.Pages.{page}
use Rattle.zb_sched.specs.Schedules.{node_of}
use Rattle.zb_sched.specs.Printed.{netkey_lines}
use Rattle.zb_sched.specs.declared.schedule.Node.{Node}
use Rattle.zb_sched.proofs.writer.put_netkeys.Given as goal

abbrev pub invariant-loop-node : goal.invariant-loop-node
invariant-loop-node l = l.out.items ≡ l.initial.out.items
    ++ page (flat_map (λ (x : Node). netkey_lines (node_of x)) (take l.node-index l.nodes))
