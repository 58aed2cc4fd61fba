use Rattle.law_recovery.proofs.Known.{joins_with}
use Rattle.law_recovery.proofs.readmission.a_device_joins_with_a_key_that_it_meets.Goals as goal

pub returns : goal.returns
returns c = joins_with
