use Rattle.law_real_recovery.proofs.LetIn.{let_in_at_the_end}
use Rattle.law_real_recovery.proofs.a_device_is_readmitted_in_each_schedule.Goals as goal

pub returns : goal.returns
returns c = let_in_at_the_end
