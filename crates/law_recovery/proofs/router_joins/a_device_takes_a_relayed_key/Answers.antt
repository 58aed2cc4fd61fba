use Rattle.law_recovery.proofs.Passing.{key_refused, key_taken}
use Rattle.law_recovery.proofs.router_joins.a_device_takes_a_relayed_key.Goals as goal

pub returns : goal.returns
returns c = record { refused = key_refused; joined = key_taken }
