use Rattle.zb_audit.proofs.TakenCounters.{none_taken}
use Rattle.zb_audit.proofs.taking.Taking.new.Goals as goal

pub returns : goal.returns
returns c = none_taken c.new.result c.new.ensures.empty
