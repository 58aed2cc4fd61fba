use Rattle.zb_audit.proofs.FreshNonces.{none_sealed}
use Rattle.zb_audit.proofs.nonces.Nonces.new.Goals as goal

pub returns : goal.returns
returns c = none_sealed c.new.result c.new.ensures.empty
