use Rattle.law_recovery.proofs.Asking.{waits, asks}
use Rattle.law_recovery.proofs.a_member_asks_to_rejoin.Goals as goal

pub returns : goal.returns
returns c = record { waits = waits; refused = asks }
