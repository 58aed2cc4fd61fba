use Rattle.law_recovery.proofs.Steady.{steady_after}
use Rattle.law_recovery.proofs.key_exchange.an_answer_leaves_a_node_steady.Goals as goal

pub returns : goal.returns
returns c = steady_after
