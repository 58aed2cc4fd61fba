-- A reading is a fold over the lines.
use Rattle.law_run.proofs.Basics.{state-append}
use Rattle.law_run.proofs.reading_goes_on.Goals as goal

pub returns : goal.returns
returns c = state-append
