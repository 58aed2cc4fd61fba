use Rattle.zb_sched.proofs.Kept.{kept}
use Rattle.zb_sched.proofs.laws.lines_keep_schedules.Goals as goal

pub returns : goal.returns
returns c = kept
