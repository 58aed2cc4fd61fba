use Rattle.std.proofs.Common.{◌++◌, ◌+◌, ◌∙◌, take, ap, sym}
use Rattle.std.specs.List.{flat_map}
use Rattle.zb_text.specs.Pages.{page}
use Rattle.zb_sched.specs.Schedules.{node_of}
use Rattle.zb_sched.specs.Printed.{code_lines}
use Rattle.zb_sched.specs.declared.schedule.Node.{Node}
use Rattle.zb_sched.proofs.PageLemmas.{flat_map_more, so_far}
use Rattle.zb_sched.proofs.writer.put_codes.Goals as goal

pub loop-node-preserved : goal.loop-node-preserved
loop-node-preserved c =
    so_far c.args.out.now.items c.loop-node.out.items c.put_own_code.new.out.items
    (page (flat_map (λ (x : Node). code_lines (node_of x)) (take c.loop-node.node-index c.args.nodes.now)))
    (page (code_lines (node_of c.node-item.result)))
    (page (flat_map (λ (x : Node). code_lines (node_of x)) (take (c.loop-node.node-index + 1) c.args.nodes.now)))
    c.loop-node.invariant c.in_ok-put_own_code.ensures
    (flat_map_more (λ (x : Node). code_lines (node_of x)) c.args.nodes.now c.loop-node.node-index c.node-item.result
    c.loop-node-test.true
    ∙ ap (λ (x : Node). page
    (flat_map (λ (x : Node). code_lines (node_of x)) (take c.loop-node.node-index c.args.nodes.now))
    ++ page (code_lines (node_of x))) (sym c.node-item.is))
