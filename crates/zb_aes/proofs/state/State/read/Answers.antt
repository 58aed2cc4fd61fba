use Rattle.zb_aes.proofs.state.State.read.Goals as goal
use Rattle.zb_aes.proofs.Blocks.{read-built}

pub returns : goal.returns
returns c =
    read-built c.args.bytes.now _ _ _ _ c.told-bytes c.packed.ensures c.packed-2.ensures
    c.packed-3.ensures c.packed-4.ensures
