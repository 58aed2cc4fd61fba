use Rattle.law_recovery.proofs.Through.{routed_and_exchanged}
use Rattle.law_recovery.proofs.router_joins.a_device_joins_through_a_router_in_a_run.Goals as goal

pub returns : goal.returns
returns c = routed_and_exchanged
