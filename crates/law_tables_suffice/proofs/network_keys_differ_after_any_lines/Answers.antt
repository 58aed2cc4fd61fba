-- Each line leaves the keys of rows, or adds a row whose key has none.
use Rattle.law_tables_suffice.proofs.States.{read_differ}
use Rattle.law_tables_suffice.proofs.network_keys_differ_after_any_lines.Goals as goal

pub returns : goal.returns
returns c = read_differ
