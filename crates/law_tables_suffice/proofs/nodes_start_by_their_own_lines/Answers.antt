-- The lines of others leave a node's state, and its EUI finds it.
use Rattle.law_tables_suffice.proofs.Starts.{starts_alone}
use Rattle.law_tables_suffice.proofs.nodes_start_by_their_own_lines.Goals as goal

pub returns : goal.returns
returns c = starts_alone
