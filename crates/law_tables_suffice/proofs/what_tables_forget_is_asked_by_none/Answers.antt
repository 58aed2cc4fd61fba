-- Accepted terms are under live keys in every state that lines give.
use Rattle.zb_model.specs.Readings.{state_of}
use Rattle.law_tables_suffice.proofs.Answers.{answer_same}
use Rattle.law_tables_suffice.proofs.LiveKeys.{accepts_live}
use Rattle.law_tables_suffice.proofs.States.{read_differ}
use Rattle.law_tables_suffice.proofs.what_tables_forget_is_asked_by_none.Goals as goal

pub returns : goal.returns
returns c = λ tools opens x h n task. answer_same tools x (state_of h n) task
    (accepts_live tools opens x (state_of h n) (read_differ h n) task)
