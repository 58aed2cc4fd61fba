-- The plan and each counter are the same.
use Rattle.law_tables_suffice.proofs.Answers.{answer_same}
use Rattle.law_tables_suffice.proofs.what_is_shown_gives_the_answer.Goals as goal

pub returns : goal.returns
returns c = answer_same
