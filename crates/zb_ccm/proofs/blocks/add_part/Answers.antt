use Rattle.zb_ccm.proofs.blocks.add_part.Goals as goal
use Rattle.std.proofs.Common.{arith}
use Rattle.zb_aes.proofs.Xored.{xored_by_index}

pub returns : goal.returns
returns c =
    xored_by_index c.args.piece.now c.args.block.now c.loop-i.piece (omega arith) c.loop-i.auto.piece
    (λ k h. c.loop-i.invariant.done k (omega arith))
