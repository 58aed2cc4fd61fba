-- The laws for each schedule.
use Rattle.law_run.specs.Premises.{Premises}
use Rattle.zb_sched.specs.Schedules.{Schedule}
use Rattle.zb_sched.specs.Valid.{IsSchedule}
use Rattle.law_real_runs.specs.Headline.{Holds}
use Rattle.law_real_runs.proofs.RealRuns.{holds}
use Rattle.law_schedules.specs.Schedules.{schedule_of}
use Rattle.law_schedules.proofs.Meets.{is_schedule, keys_apart, one}

pub premises : (p : Schedule) → IsSchedule p → Premises (schedule_of p)
premises p is = record { schedule = is_schedule p is; one_centre = one p is; keys = keys_apart p is }

pub all_hold : (p : Schedule) → IsSchedule p → Holds (schedule_of p)
all_hold p is = holds (schedule_of p) (premises p is)
