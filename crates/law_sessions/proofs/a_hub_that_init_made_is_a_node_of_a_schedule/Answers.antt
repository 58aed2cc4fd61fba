-- The start lines give the centre the tables that `init` makes.
use Rattle.law_sessions.proofs.Made.{made_is, made_nodes, made_one}
use Rattle.law_sessions.proofs.a_hub_that_init_made_is_a_node_of_a_schedule.Goals as goal

pub returns-clause-hub : goal.returns-clause-hub
returns-clause-hub c = made_is c.start_lines_give_the_first_state.ensures

pub returns-clause-nodes : goal.returns-clause-nodes
returns-clause-nodes c = made_nodes

pub returns-clause-one : goal.returns-clause-one
returns-clause-one c = made_one
