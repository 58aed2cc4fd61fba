-- By the definition, and for a run line by line.
use Rattle.law_run.proofs.CountedRuns.{takes-next}
use Rattle.law_run.proofs.each_seal_takes_the_next_counter.Goals as goal

pub returns : goal.returns
returns c = takes-next
