-- The line of each node is told after those of the nodes before it.
use Rattle.std.proofs.Common.{◌≡◌, arith, subst}
use Rattle.std.specs.Io.KnownBytes.{append_known}
use Rattle.zb_trace_model.specs.Said.{text_of}
use Rattle.zb_player_scribe.specs.Kept.{Kept}
use Rattle.zb_player_start.specs.Starts.{declared_lines}
use Rattle.zb_player_start.proofs.Turns.{no_text, node_kept, node_page, whole}
use Rattle.zb_player_start.proofs.lines.tell_nodes.Goals as goal

pub loop-node-init : goal.loop-node-init
loop-node-init c = record { page = λ known. no_text known c.args.page.now; kept = λ k. k; few = omega arith }

pub loop-node-preserved : goal.loop-node-preserved
loop-node-preserved c = record {
  page = λ known.
      node_page c.args.declared.now c.loop-node.node-index c.node-item.result c.loop-node-test.true c.node-item.is
      known c.args.page.now c.loop-node.page c.tell_node.new.page
      (c.loop-node.invariant.page known) (c.in_ok-tell_node.ensures.page known);
  kept = λ k.
      node_kept c.args.declared.now c.loop-node.node-index c.node-item.result c.loop-node-test.true c.node-item.is
      c.loop-node.scribe c.tell_node.new.scribe (c.loop-node.invariant.kept k)
      (λ h before. c.in_ok-tell_node.ensures.kept h before);
  few = omega (arith, c.loop-node.invariant.few, c.in_ok-tell_node.ensures.told);
}

pub returns-clause-page : goal.returns-clause-page
returns-clause-page c = λ known.
    subst (λ ds. c.loop-node.page ≡ append_known c.args.page.now (text_of known (declared_lines ds)))
    (whole c.args.declared.now c.loop-node.node-index c.loop-node-test.false) (c.loop-node.invariant.page known)

pub returns-clause-kept : goal.returns-clause-kept
returns-clause-kept c = λ k.
    subst (λ ds. Kept (declared_lines ds) c.loop-node.scribe)
    (whole c.args.declared.now c.loop-node.node-index c.loop-node-test.false) (c.loop-node.invariant.kept k)
