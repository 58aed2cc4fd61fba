-- What the last lines of a run say of its nodes, for each schedule.
use Rattle.zb_model_real.specs.Real.{real}
use Rattle.law_real_nodes.proofs.Euis.{different}
use Rattle.law_real_nodes.proofs.Opening.{opens_as_judged, opens_real}
use Rattle.law_run_readings.proofs.Agreed.{run_agrees}
use Rattle.law_run_readings.specs.Agreeing.{RunAgrees}
use Rattle.law_schedules.proofs.Meets.{is_schedule}
use Rattle.law_schedules.specs.Schedules.{schedule_of}
use Rattle.zb_sched.specs.Schedules.{Schedule}
use Rattle.zb_sched.specs.Valid.{IsSchedule}

pub agrees : (p : Schedule) → IsSchedule p → RunAgrees real (schedule_of p)
agrees p is = run_agrees real opens_real opens_as_judged (schedule_of p) (is_schedule p is) (different p is)
