use Rattle.law_schedules.proofs.Holding.{premises}
use Rattle.law_schedules.proofs.laws.schedules_meet_the_premises.Goals as goal

pub returns : goal.returns
returns c = premises
