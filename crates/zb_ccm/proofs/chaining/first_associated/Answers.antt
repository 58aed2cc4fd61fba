use Rattle.zb_ccm.proofs.chaining.first_associated.Goals as goal
use Rattle.std.proofs.Common.{◌∙◌}
use Rattle.zb_ccm.proofs.Arrays.{first_with_length}

pub returns : goal.returns
returns c =
    c.read.ensures ∙ first_with_length c.args.associated.now _ _ c.requires.some c.to_be_bytes.ensures c.filled.ensures
