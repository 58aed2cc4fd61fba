use Rattle.law_recovery.proofs.Knocks.{refuses, has_knocked}
use Rattle.law_recovery.proofs.readmission.a_device_knocks_for_its_code.Goals as goal

pub returns : goal.returns
returns c = record { refused = refuses; knocked = has_knocked }
