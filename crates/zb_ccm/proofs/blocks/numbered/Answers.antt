use Rattle.zb_ccm.proofs.blocks.numbered.Goals as goal
use Rattle.std.proofs.Common.{◌∙◌}
use Rattle.zb_ccm.proofs.Arrays.{numbered}

pub returns : goal.returns
returns c = c.read.ensures ∙ numbered c.args.flags c.args.number c.args.nonce.now _ c.told-nonce c.to_be_bytes.ensures
