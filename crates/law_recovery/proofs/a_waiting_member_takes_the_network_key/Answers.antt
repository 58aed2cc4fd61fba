use Rattle.law_recovery.proofs.Taking.{refused, taken}
use Rattle.law_recovery.proofs.a_waiting_member_takes_the_network_key.Goals as goal

pub returns : goal.returns
returns c = record { refused = refused; taken = taken }
