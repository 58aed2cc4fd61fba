use Rattle.std.proofs.Common.{take, arith, length-take}
use Rattle.zb_input.proofs.PartLaws.{takes_more}
use Rattle.zb_input.proofs.input.read_on.Goals as goal

pub returns-in_err-extend_from_slice-in-Ok-clause-few : goal.returns-in_err-extend_from_slice-in-Ok-clause-few
returns-in_err-extend_from_slice-in-Ok-clause-few g c =
    takes_more (g.R.Source.rest c.args.input.now) (g.R.Source.rest c.loop-buffer.input)
    (g.R.Source.rest c.read.new.self) c.args.bytes.now.items
    c.loop-buffer.bytes.items (take c.in-Ok.count c.read.new.buf) c.args.limit c.loop-buffer.invariant.grown
    c.in-Ok.ensures.bytes.0
    (omega (
      arith,
      length-take c.in-Ok.count c.read.new.buf,
      length-take c.min-room.result c.loop-buffer.buffer,
      c.in-Ok.ensures.bound,
      c.min-room.ensures,
      c.loop-buffer.invariant.room,
    ))
