use Rattle.std.proofs.Common.{◌∙◌, ap, arith, sym}
use Rattle.zb_install.specs.Division.{number_of}
use Rattle.zb_install.proofs.Division.{message_init, message_more, message_end, number_of-bits}
use Rattle.zb_install.proofs.dividing.divide.Goals as goal

pub loop-byte-init : goal.loop-byte-init
loop-byte-init c = (message_init c.args.bytes.now c.args.start, c.ranges.start.fits)

pub loop-byte-preserved : goal.loop-byte-preserved
loop-byte-preserved c = (
  message_more _ c.args.bytes.now c.loop-byte.register _ c.loop-byte.byte-index c.loop-byte-test.true
      c.loop-byte.invariant.0
      c.after_byte-register.ensures,
  omega arith,
)

pub returns : goal.returns
returns c =
    let bits = message_end _ c.args.bytes.now c.loop-byte.register c.loop-byte.byte-index (omega arith)
    c.loop-byte.invariant.0 in
    record {
      bits = bits;
      number = sym (number_of-bits 16 c.loop-byte.register c.loop-byte.invariant.1) ∙ ap number_of bits;
    }
