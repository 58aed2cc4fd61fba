use Rattle.law_real_recovery.proofs.Exchanged.{exchanged_at_the_end}
use Rattle.law_real_recovery.proofs.a_device_is_confirmed_in_each_schedule.Goals as goal

pub returns : goal.returns
returns c = exchanged_at_the_end
