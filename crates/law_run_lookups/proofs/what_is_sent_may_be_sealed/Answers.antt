-- Answers keep that a node with a network key has an active row.
use Rattle.law_run_lookups.proofs.Plans.{sealable}
use Rattle.law_run_lookups.proofs.what_is_sent_may_be_sealed.Goals as goal

pub returns : goal.returns
returns c = sealable
