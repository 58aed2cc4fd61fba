-- By the first bytes of each command.
use Rattle.law_real_runs.proofs.Confirming.{spells-confirm}
use Rattle.law_real_runs.proofs.only_confirmations_read_as_such.Goals as goal

pub returns : goal.returns
returns c = spells-confirm
