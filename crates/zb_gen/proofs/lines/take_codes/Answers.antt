use Rattle.std.proofs.Common.{ℕ, ◌+◌, arith}
use Rattle.zb_gen.specs.Made.{code_line}
use Rattle.zb_gen.proofs.Folds.{handed, line_done, line_stops}
use Rattle.zb_gen.proofs.lines.take_codes.Goals as goal

pub returns-in_err-take_code_line-clause-lines : goal.returns-in_err-take_code_line-clause-lines
returns-in_err-take_code_line-clause-lines c =
    handed c.from_residual.result c.in_err-take_code_line.field-0.0 c.take_code_line.new.maker _
    c.from_residual.ensures.1
    (line_stops (λ (x : ℕ). code_line c.args.install_codes.now.start x) 1 c.loop-i.i (c.loop-i.i + 1) c.args.n
    c.in_err-take_code_line.field-0.0 c.args.maker.now c.loop-i.maker c.take_code_line.new.maker
    c.take_code_line.new.maker
    (omega arith) (omega (arith, c.loop-i-test.true)) c.loop-i.invariant.lines
    (c.in_err-take_code_line.ensures.lines))

pub loop-i-preserved : goal.loop-i-preserved
loop-i-preserved c = record {
  lines =
      line_done (λ (x : ℕ). code_line c.args.install_codes.now.start x) 1 c.loop-i.i (c.loop-i.i + 1) c.args.maker.now
      c.loop-i.maker c.take_code_line.new.maker (omega arith) c.loop-i.invariant.lines
      (c.in_ok-take_code_line.ensures.lines);
  count = omega (arith, c.loop-i.invariant.count, c.in_ok-take_code_line.ensures.count);
}
