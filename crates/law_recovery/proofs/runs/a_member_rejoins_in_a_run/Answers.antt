use Rattle.law_recovery.proofs.Exchanged.{rejoined}
use Rattle.law_recovery.proofs.runs.a_member_rejoins_in_a_run.Goals as goal

pub returns : goal.returns
returns c = rejoined
