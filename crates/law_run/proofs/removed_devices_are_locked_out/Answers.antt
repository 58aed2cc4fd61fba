-- Both halves, removal by removal.
use Rattle.law_run.proofs.LockoutLaw.{locked}
use Rattle.law_run.proofs.removed_devices_are_locked_out.Goals as goal

pub returns : goal.returns
returns c = locked
