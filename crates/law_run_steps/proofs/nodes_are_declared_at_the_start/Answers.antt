-- The start lines declare the nodes in order, and no line of a step declares one.
use Rattle.law_run.proofs.ConfirmsRuns.{start-stations}
use Rattle.law_run_steps.proofs.Starts.{step-stations}
use Rattle.law_run_steps.proofs.nodes_are_declared_at_the_start.Goals as goal

pub returns : goal.returns
returns c = record { start = start-stations; steps = step-stations }
