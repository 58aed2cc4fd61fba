use Rattle.law_recovery.proofs.Confirmed.{joined_and_exchanged}
use Rattle.law_recovery.proofs.runs.a_device_joins_and_is_confirmed_in_a_run.Goals as goal

pub returns : goal.returns
returns c = joined_and_exchanged
