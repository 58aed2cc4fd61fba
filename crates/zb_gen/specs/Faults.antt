-- What the call `make` returns.
use Rattle.std.specs.Prelude.{◌≡◌, Result, Ok, Err, ⊤}
use Rattle.zb_sched.specs.Schedules.{Schedule, schedule_of}
use Rattle.zb_sched.specs.declared.error.SchedError.{SchedError}
use Rattle.zb_sched.specs.declared.schedule.Schedule.{Schedule as CodeSchedule}
use Rattle.zb_gen.specs.declared.maker.GenFault.{GenFault}
use Rattle.zb_gen.specs.declared.maker.GenFault.TheVariants.{Clash, NoMemory}

-- A call returned the schedule, or the first line that clashes and why, or lacked memory.
abbrev pub Makes : Result CodeSchedule GenFault → Result Schedule SchedError → Type 0
Makes (Ok schedule) expected = expected ≡ Ok (schedule_of schedule)
Makes (Err (Clash line cause)) expected = expected ≡ Err (record { line = line; cause = cause })
Makes (Err NoMemory) expected = ⊤
