-- It is part of what every schedule keeps.
use Rattle.law_real_nodes.proofs.Euis.{different}
use Rattle.law_real_nodes.proofs.nodes_have_different_euis.Goals as goal

pub returns : goal.returns
returns c = different
