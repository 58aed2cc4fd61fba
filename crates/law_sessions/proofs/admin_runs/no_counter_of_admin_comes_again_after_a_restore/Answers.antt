use Rattle.law_sessions.proofs.RunLemmas.{runs_apart_again}
use Rattle.law_sessions.proofs.admin_runs.no_counter_of_admin_comes_again_after_a_restore.Goals as goal

pub returns : goal.returns
returns c = runs_apart_again
