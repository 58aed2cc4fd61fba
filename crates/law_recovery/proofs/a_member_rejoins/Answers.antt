use Rattle.law_recovery.proofs.Taking.{rejoins}
use Rattle.law_recovery.proofs.a_member_rejoins.Goals as goal

pub returns : goal.returns
returns c = rejoins
