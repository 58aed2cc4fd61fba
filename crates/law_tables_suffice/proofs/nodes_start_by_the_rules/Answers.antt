-- A node starts with at most one network key and at most one link key.
use Rattle.law_tables_suffice.proofs.Ready.{start_rules}
use Rattle.law_tables_suffice.proofs.nodes_start_by_the_rules.Goals as goal

pub returns : goal.returns
returns c = start_rules
