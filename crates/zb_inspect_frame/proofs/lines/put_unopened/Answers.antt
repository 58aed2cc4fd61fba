use Rattle.std.proofs.Common.{◌+◌, ◌++◌, arith}
use Rattle.zb_inspect_frame.specs.Lines.{unopened_text}
use Rattle.zb_inspect_frame.proofs.UnopenedFrames.{printed_one, printed_all}
use Rattle.zb_inspect_frame.proofs.lines.put_unopened.Goals as goal

pub loop-frame-preserved : goal.loop-frame-preserved
loop-frame-preserved c = (
  printed_one c.loop-frame.frame (c.args.first + c.args.count)
      (c.args.out.now.items ++ unopened_text c.args.first c.args.count)
      c.loop-frame.out.items c.put_unopened_line.new.out.items c.loop-frame-test.true c.loop-frame.invariant.0
      c.in_ok-put_unopened_line.ensures,
  omega (arith, c.loop-frame-test.true),
)

pub returns : goal.returns
returns c =
    printed_all c.loop-frame.frame (c.args.first + c.args.count)
    (c.args.out.now.items ++ unopened_text c.args.first c.args.count) c.loop-frame.out.items
    (omega (arith, c.loop-frame-test.false)) c.loop-frame.invariant.0
