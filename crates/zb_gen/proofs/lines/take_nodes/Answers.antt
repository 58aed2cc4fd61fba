use Rattle.std.proofs.Common.{◌+◌, arith}
use Rattle.zb_gen.specs.Made.{node_line}
use Rattle.zb_gen.proofs.Folds.{handed, line_done, line_stops}
use Rattle.zb_gen.proofs.lines.take_nodes.Goals as goal

pub returns-in_err-take_node_line-clause-lines : goal.returns-in_err-take_node_line-clause-lines
returns-in_err-take_node_line-clause-lines c =
    handed c.from_residual.result c.in_err-take_node_line.field-0.0 c.take_node_line.new.maker _
    c.from_residual.ensures.1
    (line_stops node_line 1 c.loop-i.i (c.loop-i.i + 1) c.args.n c.in_err-take_node_line.field-0.0 c.args.maker.now
    c.loop-i.maker c.take_node_line.new.maker c.take_node_line.new.maker
    (omega arith) (omega (arith, c.loop-i-test.true)) c.loop-i.invariant.lines
    (c.in_err-take_node_line.ensures.lines))

pub loop-i-preserved : goal.loop-i-preserved
loop-i-preserved c = record {
  lines =
      line_done node_line 1 c.loop-i.i (c.loop-i.i + 1) c.args.maker.now c.loop-i.maker c.take_node_line.new.maker
      (omega arith) c.loop-i.invariant.lines
      (c.in_ok-take_node_line.ensures.lines);
  count = omega (arith, c.loop-i.invariant.count, c.in_ok-take_node_line.ensures.count);
}
