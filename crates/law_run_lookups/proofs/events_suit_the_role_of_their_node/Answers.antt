-- A rule refuses as policy only an event that isn't for a node of its role, and a schedule has no such event.
use Rattle.law_run_lookups.proofs.Suited.{suited}
use Rattle.law_run_lookups.proofs.events_suit_the_role_of_their_node.Goals as goal

pub returns : goal.returns
returns c = suited
