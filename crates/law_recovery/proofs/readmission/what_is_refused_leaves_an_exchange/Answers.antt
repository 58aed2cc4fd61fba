use Rattle.law_recovery.proofs.Refusing.{spared}
use Rattle.law_recovery.proofs.readmission.what_is_refused_leaves_an_exchange.Goals as goal

pub returns : goal.returns
returns c = spared
