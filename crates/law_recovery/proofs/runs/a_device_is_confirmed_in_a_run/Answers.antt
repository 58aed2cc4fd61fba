use Rattle.law_recovery.proofs.Confirmed.{exchanged}
use Rattle.law_recovery.proofs.runs.a_device_is_confirmed_in_a_run.Goals as goal

pub returns : goal.returns
returns c = exchanged
