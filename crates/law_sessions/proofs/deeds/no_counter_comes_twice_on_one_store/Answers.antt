use Rattle.law_sessions.proofs.Done.{deed_nonces_apart, deeds_apart}
use Rattle.law_sessions.proofs.deeds.no_counter_comes_twice_on_one_store.Goals as goal

pub returns-clause-counters : goal.returns-clause-counters
returns-clause-counters c = λ image deeds are. deeds_apart image deeds are

pub returns-clause-nonces : goal.returns-clause-nonces
returns-clause-nonces c = λ image deeds are. deed_nonces_apart image deeds are
