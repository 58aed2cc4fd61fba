-- Each seal uses the next counter, and no other line changes it.
use Rattle.law_run.proofs.SpentSteps.{takes-all}
use Rattle.law_run.proofs.no_counter_is_skipped_without_a_boot.Goals as goal

pub returns : goal.returns
returns c = takes-all
