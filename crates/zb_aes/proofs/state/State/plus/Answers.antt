use Rattle.zb_aes.proofs.state.State.plus.Goals as goal
use Rattle.zb_aes.proofs.Blocks.{xored-built}

pub returns : goal.returns
returns c =
    xored-built _ _ _ _ _ _ _ _ _ _ _ _ c.sum.ensures c.sum-2.ensures c.sum-3.ensures c.sum-4.ensures
