-- Event by event, a counted group is the run's.
use Rattle.law_run_counters.proofs.Unique.{unique}
use Rattle.law_run_counters.proofs.lawful_and_counted_lines_are_the_transcript.Goals as goal

pub returns : goal.returns
returns c = unique
