-- Each group is counted with the counters that its node uses.
use Rattle.law_run_counters.proofs.Unique.{counted}
use Rattle.law_run_counters.proofs.transcripts_are_counted.Goals as goal

pub returns : goal.returns
returns c = counted
