-- What `audit` makes of the text that `play` writes.
use Rattle.std.specs.Prelude.{◌≡◌, ◌≤◌, ℕ, ◌&&◌, length, Option, Some, Ok}
use Rattle.std.specs.Io.KnownBytes.{Appends}
use Rattle.zb_audit.specs.declared.fault.Verdict.{Verdict}
use Rattle.zb_base.specs.Outside.{AppendsFront}
use Rattle.zb_model.specs.Data.{Bytes}
use Rattle.zb_model.specs.Lines as log
use Rattle.zb_model.specs.Play.{Schedule}
use Rattle.zb_model.specs.Transcript.{end_line, run_lines}
use Rattle.zb_model_real.specs.Real.{real}
use Rattle.law_schedules.specs.Schedules.{schedule_of}
use Rattle.zb_sched.specs.Schedules as sched
use Rattle.zb_sched.specs.Reading.{schedule_in}
use Rattle.zb_trace_read.specs.Faults.{IsFirstBad}
use Rattle.zb_command.specs.Answers.{Writes, wanted}
use Rattle.zb_command.specs.Auditing.{Audits, IsBrokenText, IsSoundText, sound_line}
use Rattle.zb_command.specs.Commands.{Playing}
use Rattle.zb_command.specs.declared.status.Status.{Status}
use Rattle.zb_command.specs.declared.status.Status.TheVariants as status
use Rattle.zb_base.specs.Limits.{longest_input}

-- The text is the output that `play` is to write for the input.
abbrev pub IsPlayedText : Bytes → Bytes → Type 0
IsPlayedText input text = wanted Playing (Some input) ≡ Some (Writes text)

-- the last line of the transcript of a schedule
abbrev pub last_line : Schedule → log.Line
last_line w = end_line real (length w.events) (run_lines real w)

-- A verdict says what an end line does: as many seals and accepts, and locked exactly where both its words are yes.
abbrev pub SaysAsEnd : Verdict → log.Line → Type 0
SaysAsEnd v (log.End events seals accepts refusals ideal private) =
    (v.seals ≡ seals) × (v.accepts ≡ accepts) × (v.locked ≡ (ideal && private))
SaysAsEnd v _ = ⊥

-- The audit wrote the line of that verdict, or the source, the sink or the memory failed.
abbrev pub EndsSound : Verdict → Status → Option Bytes → Option Bytes → Type 0
EndsSound v status.Ok before after = Appends before after (sound_line v)
EndsSound v status.WriteFault before after = AppendsFront before after (sound_line v)
EndsSound v status.ReadFault before after = Unit {0}
EndsSound v status.NoMemory before after = Unit {0}
EndsSound v s before after = ⊥

-- However `audit` ends on the text, it ends so.
abbrev pub EndsOn : Bytes → Verdict → Type 0
EndsOn text v =
    (s : Status) (before after : Option Bytes) (old new : ℕ) → Audits s (Some text) before after old new
    → EndsSound v s before after

-- The text of the run that an input gives is that of a sound transcript, on which this verdict is the only one: no
-- line of it is no line, and none breaks a claim. Where it is no longer than the longest input, `audit` writes that
-- verdict, or the source, the sink or the memory failed.
pub record IsPlayedSound (input text : Bytes) : Type 0 where
  pub schedule : sched.Schedule
  pub reads : schedule_in input ≡ Ok schedule
  pub verdict : Verdict
  pub says : SaysAsEnd verdict (last_line (schedule_of schedule))
  pub sound : IsSoundText text verdict
  pub only : (other : Verdict) → IsSoundText text other → other ≡ verdict
  pub all_lines : (line : ℕ) → IsFirstBad text line → ⊥
  pub unbroken : (line clause : ℕ) → IsBrokenText text line clause → ⊥
  pub ends : length text ≤ longest_input → EndsOn text verdict
