-- The lines of a group's changes change the state one by one, and the commit leaves it.
use Rattle.law_run.proofs.GroupSeals.{stored-state}
use Rattle.law_run.proofs.stored_changes_are_read_back.Goals as goal

pub returns : goal.returns
returns c = stored-state
