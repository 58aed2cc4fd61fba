use Rattle.law_real_recovery.proofs.Networks.{one_network}
use Rattle.law_real_recovery.proofs.nodes_of_a_schedule_are_of_one_network.Goals as goal

pub returns : goal.returns
returns c = one_network
