use Rattle.std.proofs.Common.{◌++◌, ◌+◌, ◌∙◌, take, map, ap, sym}
use Rattle.zb_text.specs.Pages.{page, ended}
use Rattle.zb_sched.specs.Schedules.{node_of}
use Rattle.zb_sched.specs.Printed.{node_line}
use Rattle.zb_sched.specs.declared.schedule.Node.{Node}
use Rattle.zb_sched.proofs.PageLemmas.{map_more, so_far}
use Rattle.zb_sched.proofs.writer.put_nodes.Goals as goal

pub loop-node-preserved : goal.loop-node-preserved
loop-node-preserved c =
    so_far c.args.out.now.items c.loop-node.out.items c.put_node.new.out.items
    (page (map (λ (x : Node). node_line (node_of x)) (take c.loop-node.node-index c.args.nodes.now)))
    (ended (node_line (node_of c.node-item.result)))
    (page (map (λ (x : Node). node_line (node_of x)) (take (c.loop-node.node-index + 1) c.args.nodes.now)))
    c.loop-node.invariant c.in_ok-put_node.ensures
    (map_more (λ (x : Node). node_line (node_of x)) c.args.nodes.now c.loop-node.node-index c.node-item.result
    c.loop-node-test.true
    ∙ ap (λ (x : Node). page
    (map (λ (x : Node). node_line (node_of x)) (take c.loop-node.node-index c.args.nodes.now))
    ++ ended (node_line (node_of x))) (sym c.node-item.is))
