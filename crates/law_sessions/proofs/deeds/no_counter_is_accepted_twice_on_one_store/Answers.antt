use Rattle.law_sessions.proofs.HeardDeeds.{deeds_rise}
use Rattle.law_sessions.proofs.deeds.no_counter_is_accepted_twice_on_one_store.Goals as goal

pub returns : goal.returns
returns c = λ image deeds are. deeds_rise image deeds are
