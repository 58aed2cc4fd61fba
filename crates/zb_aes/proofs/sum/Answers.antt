use Rattle.zb_aes.proofs.sum.Goals as goal
use Rattle.std.proofs.Common.{arith}
use Rattle.zb_aes.proofs.Xored.{xored_by_index}

pub returns : goal.returns
returns c =
    xored_by_index c.args.a.now c.args.b.now c.loop-i.sum (omega arith) (omega arith)
    (λ k h. c.loop-i.invariant.done k (omega arith))
