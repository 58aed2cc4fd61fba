-- The laws on nodes, with the premises that each schedule meets.
use Rattle.law_real_nodes.proofs.Nodes.{sound}
use Rattle.law_real_nodes.proofs.nodes_are_sound_in_each_run.Goals as goal

pub returns : goal.returns
returns c = sound c.nodes_start_by_their_own_lines.ensures
