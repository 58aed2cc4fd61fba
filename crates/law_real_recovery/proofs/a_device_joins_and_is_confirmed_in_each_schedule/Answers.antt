use Rattle.law_real_recovery.proofs.Joined.{joined_at_the_end}
use Rattle.law_real_recovery.proofs.a_device_joins_and_is_confirmed_in_each_schedule.Goals as goal

pub returns : goal.returns
returns c = joined_at_the_end
