use Rattle.zb_ccm.proofs.keystream.crypt.Goals as goal
use Rattle.std.proofs.Common.{arith}
use Rattle.zb_ccm.proofs.Arrays.{length_state}
use Rattle.zb_ccm.proofs.Streams.{crypted_none, crypted_more, crypted_end, crypted_covers}

pub loop-i-init : goal.loop-i-init
loop-i-init c = crypted_none c.args.cipher.now c.args.nonce.now c.args.text.now

pub loop-i-preserved : goal.loop-i-preserved
loop-i-preserved c =
    crypted_more c.args.cipher.now c.args.nonce.now c.args.text.now c.loop-i.text _ _ c.loop-i.i c.min.result
    c.loop-i.invariant c.loop-i.auto.text (omega arith) c.min.ensures c.stream_block_of-block.ensures (length_state _)
    c.add.ensures

pub returns : goal.returns
returns c = record {
  crypts = crypted_end c.args.cipher.now c.args.nonce.now c.args.text.now c.loop-i.text c.loop-i.i
      c.div_ceil-i-end.result c.loop-i.invariant c.div_ceil-i-end.ensures (omega arith) c.loop-i-test.false;
  covers = crypted_covers c.args.cipher.now c.args.nonce.now c.args.text.now c.loop-i.text c.loop-i.i
      c.div_ceil-i-end.result c.loop-i.invariant c.div_ceil-i-end.ensures (omega arith) c.loop-i-test.false;
}
