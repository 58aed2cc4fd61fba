-- Whole runs.
use Rattle.std.specs.Prelude.{◌≡◌, ℕ, ◌+◌, List, [], ◌∷◌, ◌++◌, length, map, take, Option, ⊤}
use Rattle.std.specs.Io.KnownBytes.{Appends}
use Rattle.zb_base.specs.Outside.{AppendsFront}
use Rattle.zb_disk.specs.Memory.{Medium}
use Rattle.zb_player_events.specs.Calls.{run_calls}
use Rattle.zb_model.specs.Data.{Bytes, Station}
use Rattle.zb_model.specs.Lines.{Line}
use Rattle.zb_model.specs.Play.{Disk, Event, Schedule, groups, start, stations, step}
use Rattle.zb_model.specs.Transcript.{end_line, run_lines, transcript}
use Rattle.zb_model_real.specs.Real.{real}
use Rattle.law_schedules.specs.Schedules.{event_for, schedule_of, stations_for}
use Rattle.zb_player_events.specs.Nodes.{AllStand, NodeValue}
use Rattle.zb_player.specs.Playing.{AreCalled, RunStands}
use Rattle.zb_player.specs.declared.run.Run.{Run}
use Rattle.zb_player.specs.declared.summary.Summary.{Summary}
use Rattle.zb_trace_model.specs.Said.{text_of}
use Rattle.zb_player_scribe.specs.Pages.{IsFor}
use Rattle.zb_sched.specs.Schedules as sched
use Rattle.zb_sched.specs.Valid.{IsSchedule}
use Rattle.zb_sched_line.specs.Said as said
use Rattle.zb_model.specs.Lines as log

-- The model's disks after events, from the event of that number on.
unfoldable pub disks_after : Schedule → List Line → List Disk → ℕ → List Event → List Disk
disks_after w h ds number [] = ds
disks_after w h ds number (act ∷ acts) =
    let g = step real w h ds number act in disks_after w (h ++ g.lines) g.disks (number + 1) acts

abbrev pub acts_of : sched.Schedule → List said.Event → List Event
acts_of p events = map (event_for (stations_for p)) events

-- the lines of these first events of a schedule, after those lines
abbrev pub lines_of : sched.Schedule → List Line → List Disk → List said.Event → List Line
lines_of p h ds events = groups real (schedule_of p) h ds 1 (acts_of p events)

abbrev pub text_in : sched.Schedule → List Line → Bytes
text_in p lines = text_of (stations (schedule_of p)) lines

-- These are the events of the schedule.
pub record IsPlayed (p : sched.Schedule) (events : List said.Event) : Type 0 where
  pub schedule : IsSchedule p
  pub events_are : events ≡ p.events

-- So many of these events were answered: their lines were written where anyone reads them, and the run stands after
-- them.
pub record Answered (p : sched.Schedule) (h : List Line) (ds : List Disk) (events : List said.Event) (n : ℕ)
    (run : Run) (disks : List Medium) (before after : Option Bytes) : Type 0 where
  pub stands : RunStands p (h ++ lines_of p h ds (take n events))
      (disks_after (schedule_of p) h ds 1 (acts_of p (take n events))) (n + 1) run disks
  pub taken : Appends before after (text_in p (lines_of p h ds (take n events)))
  pub page : IsFor run.ledger.transcript.page after

abbrev pub Answers : Run → List Medium → List said.Event → ℕ → Run → List Medium → Option Bytes → Option Bytes → Type 0
Answers old disks events n new disks' before after =
    (p : sched.Schedule) (h : List Line) (ds : List Disk) → IsPlayed p events → RunStands p h ds 1 old disks
    → Answered p h ds events n new disks' before after

-- The device calls of the first n of these events were made.
abbrev pub AreMade : List Medium → Run → List said.Event → ℕ → List Medium → Type 0
AreMade disks old events n disks' =
    (p : sched.Schedule) (h : List Line) (ds : List Disk) → IsPlayed p events → RunStands p h ds 1 old disks
    → AreCalled (run_calls real (schedule_of p) h ds 1 (acts_of p (take n events))) (stations (schedule_of p)) disks
    disks'

abbrev pub PrintsAll : Run → List Medium → List said.Event → Option Bytes → Option Bytes → Type 0
PrintsAll old disks events before after =
    (p : sched.Schedule) (h : List Line) (ds : List Disk) → IsPlayed p events → RunStands p h ds 1 old disks
    → AppendsFront before after (text_in p (lines_of p h ds events))

-- The text of the schedule's transcript was written, or a prefix of it.
abbrev pub transcript_text : sched.Schedule → Bytes
transcript_text p = text_in p (transcript real (schedule_of p))

abbrev pub IsWhole : sched.Schedule → Option Bytes → Option Bytes → Type 0
IsWhole p before after = Appends before after (transcript_text p)

abbrev pub IsFront : sched.Schedule → Option Bytes → Option Bytes → Type 0
IsFront p before after = AppendsFront before after (transcript_text p)

-- The summary has the words of the transcript's last line.
abbrev pub last_line : Summary → Line
last_line s = log.End s.events s.seals s.accepts s.refusals s.ideal s.private

abbrev pub Sums : sched.Schedule → Summary → Type 0
Sums p s = last_line s ≡ end_line real (length p.events) (run_lines real (schedule_of p))

-- The device calls of a disk are the six of the start, and those that are said for the EUI of its node. Of the six,
-- five are for its first record and one is for its first boot.
abbrev pub HaveMade : (ℕ → ℕ) → List Station → List Medium → Type 0
HaveMade more [] [] = ⊤
HaveMade more (q ∷ qs) (m ∷ ms) = (m.calls ≡ 6 + more q.eui) × HaveMade more qs ms
HaveMade more _ _ = ⊥

-- The disks are those of nodes that stand as the lines of the whole run say, one a node, in their order. After the
-- start each made the device calls that the model counts for the events of its node.
pub record WerePlayed (p : sched.Schedule) (disks : List Medium) : Type 0 where
  pub nodes : List NodeValue
  pub ds : List Disk
  pub stand : AllStand (schedule_of p) (run_lines real (schedule_of p)) ds (length p.events + 1)
      (stations (schedule_of p)) nodes disks
  pub calls : HaveMade (run_calls real (schedule_of p) (start (schedule_of p)) [] 1 (schedule_of p).events)
      (stations (schedule_of p)) disks
