use Rattle.zb_store.proofs.Powers.{stop_falls, failure_falls, unarmed_none, stop_missed, failure_missed, still_on}
use Rattle.zb_store.proofs.laws.armed_runs.Goals as goal

pub returns-clause-stopped : goal.returns-clause-stopped
returns-clause-stopped c = stop_falls

pub returns-clause-failed : goal.returns-clause-failed
returns-clause-failed c = failure_falls

pub returns-clause-unarmed : goal.returns-clause-unarmed
returns-clause-unarmed c = unarmed_none

pub returns-clause-missed_stop : goal.returns-clause-missed_stop
returns-clause-missed_stop c = stop_missed

pub returns-clause-missed_failure : goal.returns-clause-missed_failure
returns-clause-missed_failure c = failure_missed

pub returns-clause-on : goal.returns-clause-on
returns-clause-on c = still_on
