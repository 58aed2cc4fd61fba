-- By what each rule changes.
use Rattle.law_run_steps.proofs.Centre.{none-of-others}
use Rattle.law_run_steps.proofs.others_make_no_change_of_the_centre.Goals as goal

pub returns : goal.returns
returns c = none-of-others
