use Rattle.law_sessions.proofs.DoneSince.{life_nonces_apart, whole_life_apart}
use Rattle.law_sessions.proofs.deeds.no_counter_comes_twice_in_a_life.Goals as goal

pub returns-clause-counters : goal.returns-clause-counters
returns-clause-counters c = λ image deeds more are restored. whole_life_apart image deeds more are restored

pub returns-clause-nonces : goal.returns-clause-nonces
returns-clause-nonces c = λ image deeds more are restored. life_nonces_apart image deeds more are restored
