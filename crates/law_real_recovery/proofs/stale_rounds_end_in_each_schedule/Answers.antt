use Rattle.law_real_recovery.proofs.Repeated.{rounds_at_the_end, rounds_bounded}
use Rattle.law_real_recovery.proofs.stale_rounds_end_in_each_schedule.Goals as goal

pub returns : goal.returns
returns c = record { rounds = rounds_at_the_end; bounded = rounds_bounded }
