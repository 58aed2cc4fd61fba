-- Each accepted term has its own floor.
use Rattle.law_run_counters.proofs.Floors.{answer-floors}
use Rattle.law_run_counters.proofs.floors_of_an_answer_are_for_what_it_accepts.Goals as goal

pub returns : goal.returns
returns c = answer-floors
