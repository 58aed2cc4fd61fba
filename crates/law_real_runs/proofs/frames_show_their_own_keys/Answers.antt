-- Field by field, for each kind of frame and command.
use Rattle.law_real_runs.proofs.OwnKeys.{shows-keys}
use Rattle.law_real_runs.proofs.frames_show_their_own_keys.Goals as goal

pub returns : goal.returns
returns c = shows-keys
