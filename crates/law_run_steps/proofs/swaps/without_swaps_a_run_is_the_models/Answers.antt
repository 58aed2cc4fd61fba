-- By induction over the events.
use Rattle.law_run_steps.proofs.Unswapped.{lines_unswapped, transcript_unswapped}
use Rattle.law_run_steps.proofs.swaps.without_swaps_a_run_is_the_models.Goals as goal

pub returns : goal.returns
returns c = record { lines = lines_unswapped; whole = transcript_unswapped }
