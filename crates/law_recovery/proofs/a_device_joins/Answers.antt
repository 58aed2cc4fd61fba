use Rattle.law_recovery.proofs.Knocking.{refuses, joins}
use Rattle.law_recovery.proofs.a_device_joins.Goals as goal

pub returns : goal.returns
returns c = record { refused = refuses; joined = joins }
