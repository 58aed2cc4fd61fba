use Rattle.law_schedules.proofs.Holding.{all_hold}
use Rattle.law_schedules.proofs.laws.each_schedule_holds.Goals as goal

pub returns : goal.returns
returns c = all_hold
