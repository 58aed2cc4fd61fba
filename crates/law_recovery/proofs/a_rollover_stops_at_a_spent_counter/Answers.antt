use Rattle.law_recovery.proofs.Rolling.{rollover_stops}
use Rattle.law_recovery.proofs.a_rollover_stops_at_a_spent_counter.Goals as goal

pub returns : goal.returns
returns c = rollover_stops
