-- A schedule, read line by line up to the first bad line.
use Rattle.std.specs.Prelude.{◌≡◌, ℕ, ◌+◌, List, [], ◌∷◌, map, Bool, true, false, if◌then◌else◌, Option, Some, None, Result, Ok, Err, ⊤}
use Rattle.std.specs.List.{list_any}
use Rattle.std.specs.Str.Lines.{lines}
use Rattle.zb_base.specs.declared.fault.OrMemory.{OrMemory}
use Rattle.zb_base.specs.declared.fault.OrMemory.TheVariants.{Fault, NoMemory}
use Rattle.zb_base.specs.declared.node.Role.{Role}
use Rattle.zb_base.specs.declared.node.Role.TheVariants.{Centre, Router, Device}
use Rattle.zb_sched_line.specs.Grammar.{meaning_of}
use Rattle.zb_sched_line.specs.Said.{Sentence}
use Rattle.zb_sched.specs.Judge.{Seat, Seen, after_sentence}
use Rattle.zb_sched.specs.Schedules.{Schedule, schedule_of}
use Rattle.zb_sched.specs.declared.error.SchedCause.{SchedCause}
use Rattle.zb_sched.specs.declared.error.SchedCause.TheVariants.{Syntax, NoCentre}
use Rattle.zb_sched.specs.declared.error.SchedError.{SchedError}
use Rattle.zb_sched.specs.declared.schedule.Schedule.{Schedule as CodeSchedule}

-- After what a line means; a line that means nothing is a fault of syntax.
abbrev pub after_meaning : Seen → Option Sentence → Result Seen SchedCause
after_meaning seen None = Err Syntax
after_meaning seen (Some sentence) = after_sentence seen sentence

abbrev pub after_line : Seen → List ℕ → Result Seen SchedCause
after_line seen line = after_meaning seen (meaning_of line)

abbrev pub is_centre : Role → Bool
is_centre Centre = true
is_centre Router = false
is_centre Device = false

abbrev pub has_centre : List Seat → Bool
has_centre seats = list_any (λ seat. is_centre seat.node.role) seats

abbrev pub finished : Seen → Schedule
finished seen = record { nodes = map (λ seat. seat.node) seen.seats; draws = seen.draws; events = seen.events }

-- Goes on after a line of that number, or stops at its cause.
abbrev pub numbered : ℕ → Result Seen SchedCause → (Seen → Result Schedule SchedError) → Result Schedule SchedError
numbered number (Err cause) go_on = Err (record { line = number; cause = cause })
numbered number (Ok seen) go_on = go_on seen

-- The schedule of the lines from the one of that number on. Without a centre, the fault is after the last line.
abbrev pub reads : ℕ → Seen → List (List ℕ) → Result Schedule SchedError
reads number seen [] = if has_centre seen.seats then Ok (finished seen)
    else Err (record { line = number; cause = NoCentre })
reads number seen (line ∷ more) = numbered number (after_line seen line) (λ next. reads (number + 1) next more)

-- Nothing yet.
abbrev pub start : Seen
start = record { seats = []; draws = []; events = [] }

-- The schedule that a text is, or its first bad line and the first cause of that.
abbrev pub schedule_in : List ℕ → Result Schedule SchedError
schedule_in text = reads 1 start (lines text)

-- A call answered what a line does, or lacked memory.
abbrev pub Steps : Result Unit (OrMemory SchedCause) → Seen → Result Seen SchedCause → Type 0
Steps (Ok done) after expected = expected ≡ Ok after
Steps (Err (Fault cause)) after expected = expected ≡ Err cause
Steps (Err NoMemory) after expected = ⊤

-- A call answered what a text is, or lacked memory.
abbrev pub Reads : Result CodeSchedule (OrMemory SchedError) → Result Schedule SchedError → Type 0
Reads (Ok schedule) expected = expected ≡ Ok (schedule_of schedule)
Reads (Err (Fault fault)) expected = expected ≡ Err fault
Reads (Err NoMemory) expected = ⊤
