use Rattle.zb_store.proofs.Powers.{open_stands, open_failure_stands, open_gates, open_failure_gates, open_closed, open_within}
use Rattle.zb_store.proofs.laws.stopped_open.Goals as goal

pub returns-clause-stands : goal.returns-clause-stands
returns-clause-stands c = open_stands

pub returns-clause-stands_failed : goal.returns-clause-stands_failed
returns-clause-stands_failed c = open_failure_stands

pub returns-clause-gates : goal.returns-clause-gates
returns-clause-gates c = open_gates

pub returns-clause-gates_failed : goal.returns-clause-gates_failed
returns-clause-gates_failed c = open_failure_gates

pub returns-clause-closed : goal.returns-clause-closed
returns-clause-closed c = open_closed

pub returns-clause-within : goal.returns-clause-within
returns-clause-within c = open_within
