use Rattle.zb_ccm.proofs.Sealings.{opens-sealed}
use Rattle.zb_ccm.proofs.laws.a_sealed_message_opens.Goals as goal

pub returns : goal.returns
returns c = opens-sealed
