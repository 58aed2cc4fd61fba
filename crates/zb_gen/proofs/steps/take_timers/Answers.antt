use Rattle.std.proofs.Common.{ℕ, arith, codes}
use Rattle.zb_gen.proofs.Folds.{handed, line_done, line_stops}
use Rattle.zb_gen.proofs.steps.take_timers.Goals as goal

pub returns-in_err-take_timer_line-clause-lines : goal.returns-in_err-take_timer_line-clause-lines
returns-in_err-take_timer_line-clause-lines c =
    handed c.from_residual.result c.in_err-take_timer_line.field-0.0 c.take_timer_line.new.maker _
    c.from_residual.ensures.1
    (line_stops (λ (x : ℕ). codes "timer c") 0 c.loop-k.k c.loop-k.k c.args.count c.in_err-take_timer_line.field-0.0
    c.args.maker.now c.loop-k.maker c.take_timer_line.new.maker c.take_timer_line.new.maker
    (omega arith) (omega (arith, c.loop-k-test.true)) c.loop-k.invariant.lines
    (c.in_err-take_timer_line.ensures.lines))

pub loop-k-preserved : goal.loop-k-preserved
loop-k-preserved c = record {
  lines =
      line_done (λ (x : ℕ). codes "timer c") 0 c.loop-k.k c.loop-k.k c.args.maker.now c.loop-k.maker
      c.take_timer_line.new.maker (omega arith) c.loop-k.invariant.lines
      (c.in_ok-take_timer_line.ensures.lines);
  count = omega (arith, c.loop-k.invariant.count, c.in_ok-take_timer_line.ensures.count);
}
