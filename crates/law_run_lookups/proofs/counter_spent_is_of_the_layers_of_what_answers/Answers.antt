-- One lemma per part of the frame.
use Rattle.law_run_lookups.proofs.Delivered.{delivery-spent, delivery-sealed}
use Rattle.law_run_lookups.proofs.counter_spent_is_of_the_layers_of_what_answers.Goals as goal

pub returns : goal.returns
returns c = record { refusals = delivery-spent; frames = delivery-sealed }
