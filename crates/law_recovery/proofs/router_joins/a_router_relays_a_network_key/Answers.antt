use Rattle.law_recovery.proofs.Passing.{relay_refused, relay_sent}
use Rattle.law_recovery.proofs.router_joins.a_router_relays_a_network_key.Goals as goal

pub returns : goal.returns
returns c = record { refused = relay_refused; sent = relay_sent }
