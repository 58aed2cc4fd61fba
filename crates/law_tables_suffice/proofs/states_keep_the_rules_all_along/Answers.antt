-- Step by step.
use Rattle.law_tables_suffice.proofs.Ready.{ruled_along}
use Rattle.law_tables_suffice.proofs.states_keep_the_rules_all_along.Goals as goal

pub returns : goal.returns
returns c = ruled_along
