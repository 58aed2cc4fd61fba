use Rattle.law_real_recovery.proofs.Repeated.{happenings_at_the_end}
use Rattle.law_real_recovery.proofs.stops_cost_repeats_in_each_schedule.Goals as goal

pub returns : goal.returns
returns c = happenings_at_the_end
