-- EUIs differ, so each node is found, and no start line is one of power or of a commit.
use Rattle.law_schedules.specs.Schedules.{schedule_of}
use Rattle.zb_player_start.proofs.DeclaredLines.{node_found, nodes_apart, powered, uncommitted}
use Rattle.zb_player_start.proofs.starting.start_lines_say_what_is_declared.Goals as goal

pub returns-clause-states : goal.returns-clause-states
returns-clause-states c = λ p me m is at. c.start_lines_give_the_first_state.ensures (schedule_of p) m
    (nodes_apart p is) (node_found p is me m at)

pub returns-clause-powered : goal.returns-clause-powered
returns-clause-powered c = powered

pub returns-clause-uncommitted : goal.returns-clause-uncommitted
returns-clause-uncommitted c = uncommitted
