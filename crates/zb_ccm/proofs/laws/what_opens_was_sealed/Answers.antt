use Rattle.zb_ccm.proofs.Sealings.{sealed-opens}
use Rattle.zb_ccm.proofs.laws.what_opens_was_sealed.Goals as goal

pub returns : goal.returns
returns c = sealed-opens
