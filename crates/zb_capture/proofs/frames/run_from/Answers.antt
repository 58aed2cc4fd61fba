use Rattle.std.proofs.Common.{◌∙◌, ◌++◌, ℕ, length, drop, ap, arith}
use Rattle.arrayvec.specs.ArrayVec.{ArrayVec}
use Rattle.zb_capture.specs.Runs.{all_runs}
use Rattle.zb_capture.proofs.RunLaws.{run_passed}
use Rattle.zb_capture.proofs.frames.run_from.Goals as goal

pub loop-run-preserved : goal.loop-run-preserved
loop-run-preserved c =
    let run = c.run-item.result in
    let on = run_passed c.args.runs.now c.args.last.now c.loop-run.run-index c.loop-run.left c.len-left.result run
    (drop c.args.place (all_runs c.args.runs.now ++ c.args.last.now)) c.loop-run-test.true
    (c.len-left.ensures ∙ ap (length {A = ArrayVec ℕ}) c.run-item.is)
    (omega (arith, c.if-left-len.false, c.len.ensures, c.len-left.ensures)) c.loop-run.invariant.within
    c.loop-run.invariant.same in
    record { within = on.within; same = on.same }
