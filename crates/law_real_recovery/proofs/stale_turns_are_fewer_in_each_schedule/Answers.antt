use Rattle.law_real_recovery.proofs.Repeated.{stale_answers_bounded, stale_turns_bounded}
use Rattle.law_real_recovery.proofs.stale_turns_are_fewer_in_each_schedule.Goals as goal

pub returns : goal.returns
returns c = record { at_centre = stale_turns_bounded; at_device = stale_answers_bounded }
