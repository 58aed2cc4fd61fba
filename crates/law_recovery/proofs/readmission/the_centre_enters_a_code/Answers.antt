use Rattle.law_recovery.proofs.Codes.{refuses, enters}
use Rattle.law_recovery.proofs.readmission.the_centre_enters_a_code.Goals as goal

pub returns : goal.returns
returns c = record { refused = refuses; entered = enters }
