use Rattle.zb_audit.proofs.EndLines.{none_ended}
use Rattle.zb_audit.proofs.ending.Ending.new.Goals as goal

pub returns : goal.returns
returns c = none_ended
