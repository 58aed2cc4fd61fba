use Rattle.law_recovery.proofs.Readmitted.{readmitted}
use Rattle.law_recovery.proofs.readmission.a_device_is_readmitted_in_a_run.Goals as goal

pub returns : goal.returns
returns c = readmitted
