use Rattle.law_recovery.proofs.HavingKeys.{live_taken}
use Rattle.law_recovery.proofs.a_live_key_is_taken.Goals as goal

pub returns : goal.returns
returns c = live_taken
