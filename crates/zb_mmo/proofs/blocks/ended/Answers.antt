use Rattle.zb_mmo.proofs.Ends.{ended}
use Rattle.zb_mmo.proofs.blocks.ended.Goals as goal

pub returns : goal.returns
returns c = ended c.args.block.now _ c.args.bits c.told-block c.to_be_bytes.ensures
