use Rattle.law_real_recovery.proofs.Repeated.{turns_at_the_end}
use Rattle.law_real_recovery.proofs.lost_frames_cost_repeats_in_each_schedule.Goals as goal

pub returns : goal.returns
returns c = turns_at_the_end
