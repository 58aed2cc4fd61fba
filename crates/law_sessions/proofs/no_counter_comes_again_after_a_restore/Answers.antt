use Rattle.law_sessions.proofs.SessionLemmas.{sessions_apart_again}
use Rattle.law_sessions.proofs.no_counter_comes_again_after_a_restore.Goals as goal

pub returns-clause-again : goal.returns-clause-again
returns-clause-again c = sessions_apart_again
