use Rattle.law_real_recovery.proofs.Ending.{rejoins_at_the_end}
use Rattle.law_real_recovery.proofs.a_member_rejoins_in_each_schedule.Goals as goal

pub returns : goal.returns
returns c = rejoins_at_the_end
