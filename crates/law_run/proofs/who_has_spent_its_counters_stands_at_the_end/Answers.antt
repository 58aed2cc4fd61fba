-- Each rule tests its counters before it refuses for them, a refused answer seals nothing, and no counter passes the
-- greatest.
use Rattle.law_run.proofs.SpentLaw.{transcript-spent}
use Rattle.law_run.proofs.who_has_spent_its_counters_stands_at_the_end.Goals as goal

pub returns : goal.returns
returns c = transcript-spent
