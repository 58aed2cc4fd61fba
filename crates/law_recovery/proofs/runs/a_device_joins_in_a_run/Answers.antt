use Rattle.law_recovery.proofs.Joined.{joined}
use Rattle.law_recovery.proofs.runs.a_device_joins_in_a_run.Goals as goal

pub returns : goal.returns
returns c = joined
