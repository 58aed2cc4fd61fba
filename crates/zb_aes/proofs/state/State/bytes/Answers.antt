use Rattle.zb_aes.proofs.state.State.bytes.Goals as goal
use Rattle.zb_aes.proofs.Blocks.{bytes-built}

pub returns : goal.returns
returns c =
    bytes-built _ _ _ _ _ _ _ _ c.to_be_bytes.ensures c.to_be_bytes-2.ensures c.to_be_bytes-3.ensures
    c.to_be_bytes-4.ensures
