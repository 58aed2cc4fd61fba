-- The lines of each node are told after those of the nodes before it.
use Rattle.std.proofs.Common.{arith}
use Rattle.zb_player_scribe.specs.Turns.{none_told}
use Rattle.zb_player_start.specs.Starts.{code_lines}
use Rattle.zb_player_start.proofs.Turns.{all_told, turn}
use Rattle.zb_player_start.proofs.lines.tell_codes.Goals as goal

pub loop-node-init : goal.loop-node-init
loop-node-init c = record { tells = λ known all. none_told known c.args.scribe.now c.args.page.now; few = omega arith }

pub loop-node-preserved : goal.loop-node-preserved
loop-node-preserved c = record {
  tells = λ known all.
      turn (code_lines c.args.centre.0) c.args.declared.now c.loop-node.node-index c.node-item.result
      c.loop-node-test.true c.node-item.is known all c.args.scribe.now c.loop-node.scribe c.tell_code.new.scribe
      c.args.page.now c.loop-node.page c.tell_code.new.page (c.loop-node.invariant.tells known all)
      (λ it. c.in_ok-tell_code.ensures.tells known it);
  few = omega (arith, c.loop-node.invariant.few, c.in_ok-tell_code.ensures.told);
}

pub returns-clause-tells : goal.returns-clause-tells
returns-clause-tells c = λ known all.
    all_told (code_lines c.args.centre.0) c.args.declared.now c.loop-node.node-index c.loop-node-test.false known
    c.args.scribe.now c.loop-node.scribe c.args.page.now c.loop-node.page (c.loop-node.invariant.tells known all)
