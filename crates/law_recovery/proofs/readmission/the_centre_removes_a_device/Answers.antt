use Rattle.law_recovery.proofs.Removing.{refuses, removes, same_counter}
use Rattle.law_recovery.proofs.readmission.the_centre_removes_a_device.Goals as goal

pub returns : goal.returns
returns c = record { refused = refuses; removed = removes; counter = same_counter }
