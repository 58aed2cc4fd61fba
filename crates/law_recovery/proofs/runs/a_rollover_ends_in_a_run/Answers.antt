use Rattle.law_recovery.proofs.Rolled.{rolled}
use Rattle.law_recovery.proofs.runs.a_rollover_ends_in_a_run.Goals as goal

pub returns : goal.returns
returns c = rolled
