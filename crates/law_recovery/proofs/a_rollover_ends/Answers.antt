use Rattle.law_recovery.proofs.Rolling.{rollover_ends}
use Rattle.law_recovery.proofs.a_rollover_ends.Goals as goal

pub returns : goal.returns
returns c = rollover_ends
