use Rattle.std.proofs.Common.{ℕ, ◌+◌, arith}
use Rattle.zb_gen.specs.Made.{join_lines}
use Rattle.zb_gen.proofs.Folds.{handed, part_done, part_stops}
use Rattle.zb_gen.proofs.lines.take_joins.Goals as goal

pub returns-in_err-take_join-clause-lines : goal.returns-in_err-take_join-clause-lines
returns-in_err-take_join-clause-lines c =
    handed c.from_residual.result c.in_err-take_join.field-0.0 c.take_join.new.maker _ c.from_residual.ensures.1
    (part_stops (λ (x : ℕ). join_lines c.args.install_codes.now.start x) 1 c.loop-i.i (c.loop-i.i + 1) c.args.n
    c.in_err-take_join.field-0.0 c.args.maker.now c.loop-i.maker c.take_join.new.maker c.take_join.new.maker
    (omega arith) (omega (arith, c.loop-i-test.true)) c.loop-i.invariant.lines
    (c.in_err-take_join.ensures.lines))

pub loop-i-preserved : goal.loop-i-preserved
loop-i-preserved c = record {
  lines =
      part_done (λ (x : ℕ). join_lines c.args.install_codes.now.start x) 1 c.loop-i.i (c.loop-i.i + 1)
      c.args.maker.now c.loop-i.maker c.take_join.new.maker (omega arith) c.loop-i.invariant.lines
      (c.in_ok-take_join.ensures.lines);
  count = omega (arith, c.loop-i.invariant.count, c.in_ok-take_join.ensures.count);
}
