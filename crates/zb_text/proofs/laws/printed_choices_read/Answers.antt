use Rattle.zb_text.proofs.ChoiceLemmas.{role_both_ways, layer_both_ways, label_both_ways, attribute_both_ways, state_both_ways, rollover_both_ways, place_both_ways, answer_both_ways}
use Rattle.zb_text.proofs.laws.printed_choices_read.Goals as goal

pub returns-clause-role : goal.returns-clause-role
returns-clause-role c = role_both_ways

pub returns-clause-layer : goal.returns-clause-layer
returns-clause-layer c = layer_both_ways

pub returns-clause-label : goal.returns-clause-label
returns-clause-label c = label_both_ways

pub returns-clause-attribute : goal.returns-clause-attribute
returns-clause-attribute c = attribute_both_ways

pub returns-clause-state : goal.returns-clause-state
returns-clause-state c = state_both_ways

pub returns-clause-rollover : goal.returns-clause-rollover
returns-clause-rollover c = rollover_both_ways

pub returns-clause-place : goal.returns-clause-place
returns-clause-place c = place_both_ways

pub returns-clause-answer : goal.returns-clause-answer
returns-clause-answer c = answer_both_ways
