-- Of real frames and commands.
use Rattle.law_sessions.proofs.LogRuns.{run_holds}
use Rattle.law_sessions.proofs.the_run_of_a_hub_holds.Goals as goal

pub returns : goal.returns
returns c = run_holds c.only_confirmations_read_as_such.ensures
