-- The laws of the exposed keys.
use Rattle.zb_trace_watch.proofs.Exposed.{exposed_covers, exposed_closed, exposed_least}
use Rattle.zb_trace_watch.proofs.laws.exposed_keys_are_the_least_closed_set.Goals as goal

pub returns-clause-covers : goal.returns-clause-covers
returns-clause-covers c = exposed_covers

pub returns-clause-closed : goal.returns-clause-closed
returns-clause-closed c = exposed_closed

pub returns-clause-least : goal.returns-clause-least
returns-clause-least c = exposed_least
