use Rattle.zb_audit.proofs.ConfirmedKeys.{none_confirmed}
use Rattle.zb_audit.proofs.confirming.Confirming.new.Goals as goal

pub returns : goal.returns
returns c = none_confirmed c.new.result c.new.ensures.empty
