use Rattle.zb_sched.proofs.OneCentre.{one_centre}
use Rattle.zb_sched.proofs.laws.schedules_have_one_centre.Goals as goal

pub returns : goal.returns
returns c = λ schedule is. one_centre schedule.nodes is.so_far.nodes is.so_far.apart
