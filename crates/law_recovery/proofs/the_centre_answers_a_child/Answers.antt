use Rattle.law_recovery.proofs.Asking.{refuses}
use Rattle.law_recovery.proofs.Taking.{sent}
use Rattle.law_recovery.proofs.the_centre_answers_a_child.Goals as goal

pub returns : goal.returns
returns c = record { refused = refuses; sent = sent }
