-- Each accept line of a run fits the lines before it.
use Rattle.law_run.proofs.OnceRuns.{once}
use Rattle.law_run.proofs.no_counter_is_taken_twice.Goals as goal

pub returns : goal.returns
returns c = once
