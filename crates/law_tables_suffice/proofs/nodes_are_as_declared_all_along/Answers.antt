-- The start lines declare each node once, and no later line changes its role.
use Rattle.law_tables_suffice.proofs.Ready.{declared_along}
use Rattle.law_tables_suffice.proofs.nodes_are_as_declared_all_along.Goals as goal

pub returns : goal.returns
returns c = declared_along
