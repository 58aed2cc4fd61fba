-- By the rules for records, which each node's state always keeps.
use Rattle.law_run_lookups.proofs.Newest.{newest-along}
use Rattle.law_run_lookups.proofs.a_newest_key_is_there.Goals as goal

pub returns : goal.returns
returns c = newest-along
