use Rattle.law_sessions.proofs.HeardSince.{life_rises}
use Rattle.law_sessions.proofs.deeds.no_counter_is_accepted_twice_unless_it_was_undone.Goals as goal

pub returns : goal.returns
returns c = λ image deeds more are in_line. life_rises image deeds more are in_line
