use Rattle.law_recovery.proofs.Repeating.{rejoins_after}
use Rattle.law_recovery.proofs.Taking.{left_by_stale}
use Rattle.law_recovery.proofs.a_stale_answer_is_repeated.Goals as goal

pub returns : goal.returns
returns c = record { kept = left_by_stale; rejoined = rejoins_after }
