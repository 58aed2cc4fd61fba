use Rattle.law_real_recovery.proofs.Through.{routed_at_the_end}
use Rattle.law_real_recovery.proofs.a_device_joins_through_a_router_in_each_schedule.Goals as goal

pub returns : goal.returns
returns c = routed_at_the_end
