-- What the ends of the program mean.
use Rattle.std.specs.Prelude.{◌≡◌, ℕ, Option, Ok, IfSome}
use Rattle.std.specs.Io.KnownBytes.{Appends, IsAtEnd, Keeps}
use Rattle.zb_base.specs.Outside.{AppendsFront, Rose}
use Rattle.zb_gen.specs.Made.{made_schedule}
use Rattle.zb_model.specs.Data.{Bytes}
use Rattle.zb_model_real.specs.Real.{real}
use Rattle.law_real_nodes.specs.Sound.{NodesAreSound}
use Rattle.law_real_runs.specs.Headline.{Holds}
use Rattle.law_run_readings.specs.Agreeing.{RunAgrees}
use Rattle.law_schedules.specs.Schedules.{schedule_of}
use Rattle.zb_campaign.specs.Runs.{transcript_text}
use Rattle.zb_sched.specs.Schedules as sched
use Rattle.zb_sched.specs.Printed.{printed}
use Rattle.zb_sched.specs.Reading.{schedule_in}
use Rattle.zb_sched.specs.Valid.{IsSchedule}
use Rattle.zb_command.specs.Answers.{Answer, Writes, Refuses, Exceeds, output_of}
use Rattle.zb_command.specs.Commands.{Invocation, Playing, Installing, Making, Inspecting, Sniffing, Campaigning, Auditing, Serving}
use Rattle.zb_command.specs.declared.status.Status.{Status}
use Rattle.zb_command.specs.declared.status.Status.TheVariants as status
use Rattle.zb_base.specs.Limits.{longest_input}

-- The answer is an output, and that was written.
abbrev pub IsWritten : Answer → Option Bytes → Option Bytes → Type 0
IsWritten (Writes output) before after = Appends before after output
IsWritten (Refuses line cause) before after = ⊥
IsWritten Exceeds before after = ⊥

-- A prefix of the answer's output was written.
abbrev pub IsBegun : Answer → Option Bytes → Option Bytes → Type 0
IsBegun answer before after = AppendsFront before after (output_of answer)

-- How a command ends whose answer is wanted, where that is known: what the sink took before and after, and its count
-- of faults.
abbrev pub Ends : Status → Option Answer → Option Bytes → Option Bytes → ℕ → ℕ → Type 0
Ends status.Ok wanted before after old new = IfSome wanted (λ answer. IsWritten answer before after)
Ends status.Usage wanted before after old new = ⊥
Ends status.ReadFault wanted before after old new = Keeps before after
Ends status.WriteFault wanted before after old new = IfSome wanted (λ answer. IsBegun answer before after)
    × Rose old new
Ends (status.Refused line cause) wanted before after old new = IfSome wanted (λ answer. answer ≡ Refuses line cause)
    × Keeps before after
Ends status.NoMemory wanted before after old new = IfSome wanted (λ answer. IsBegun answer before after)
Ends status.DiskFault wanted before after old new = ⊥
Ends status.NoStore wanted before after old new = ⊥
Ends (status.TooLong limit) wanted before after old new = (limit ≡ longest_input)
    × IfSome wanted (λ answer. answer ≡ Exceeds) × Keeps before after
Ends (status.Broken line clause) wanted before after old new = ⊥
Ends (status.BadStore at) wanted before after old new = ⊥
Ends status.Worn wanted before after old new = ⊥

-- Nothing is left to come of the input of a command that has one.
abbrev pub ReadsToEnd : Invocation → Option Bytes → Type 0
ReadsToEnd Playing left = IsAtEnd left
ReadsToEnd (Installing code) left = Unit {0}
ReadsToEnd (Making count) left = Unit {0}
ReadsToEnd (Inspecting jobs) left = IsAtEnd left
ReadsToEnd (Sniffing jobs keys) left = IsAtEnd left
ReadsToEnd (Campaigning count start jobs) left = Unit {0}
ReadsToEnd Auditing left = IsAtEnd left
ReadsToEnd Serving left = IsAtEnd left

-- What the statuses say of the bytes written: nothing was, or a prefix of the output.
abbrev pub WritesNothing : Status → Option Bytes → Option Bytes → Type 0
WritesNothing status.Ok before after = Unit {0}
WritesNothing status.Usage before after = Keeps before after
WritesNothing status.ReadFault before after = Keeps before after
WritesNothing status.WriteFault before after = Unit {0}
WritesNothing (status.Refused line cause) before after = Keeps before after
WritesNothing status.NoMemory before after = Unit {0}
WritesNothing status.DiskFault before after = Unit {0}
WritesNothing status.NoStore before after = Unit {0}
WritesNothing (status.TooLong limit) before after = Keeps before after
WritesNothing (status.Broken line clause) before after = Keeps before after
WritesNothing (status.BadStore at) before after = Unit {0}
WritesNothing status.Worn before after = Unit {0}

abbrev pub WritesFront : Status → Answer → Option Bytes → Option Bytes → Type 0
WritesFront status.WriteFault answer before after = IsBegun answer before after
WritesFront status.NoMemory answer before after = IsBegun answer before after
WritesFront s answer before after = Unit {0}

-- The input is a schedule, and the text of its transcript was written. Everything holds of that transcript that the
-- laws over runs say, and it is the only list of lines that the schedule gives. Each rule finds the row or key that it
-- looks up, and what a node sends may be sealed; what its lines say last of a thing is what the states of its nodes
-- say.
pub record Played (input : Bytes) (before after : Option Bytes) : Type 0 where
  pub schedule : sched.Schedule
  pub reads : schedule_in input ≡ Ok schedule
  pub written : Appends before after (transcript_text schedule)
  pub holds : Holds (schedule_of schedule)
  pub nodes : NodesAreSound (schedule_of schedule)
  pub says : RunAgrees real (schedule_of schedule)

-- A schedule was made, and its printed text was written, which is a text that reads as that schedule.
pub record Made (count : ℕ) (before after : Option Bytes) : Type 0 where
  pub schedule : sched.Schedule
  pub is : made_schedule 0 count ≡ Ok schedule
  pub valid : IsSchedule schedule
  pub reads : schedule_in (printed schedule) ≡ Ok schedule
  pub written : Appends before after (printed schedule)
