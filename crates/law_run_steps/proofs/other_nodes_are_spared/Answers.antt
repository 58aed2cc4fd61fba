-- No line of the step is the node's own, and its disk is left.
use Rattle.law_run_steps.proofs.Spared.{spared}
use Rattle.law_run_steps.proofs.other_nodes_are_spared.Goals as goal

pub returns : goal.returns
returns c = spared
