use Rattle.law_recovery.proofs.Knocking.{knock_refused, knocks}
use Rattle.law_recovery.proofs.a_device_knocks.Goals as goal

pub returns : goal.returns
returns c = record { refused = knock_refused; knocked = knocks }
