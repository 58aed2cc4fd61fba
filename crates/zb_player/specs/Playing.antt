-- What a run is of the lines so far, and what an event makes of it.
use Rattle.std.specs.Prelude.{◌^◌, ◌≡◌, ℕ, ◌+◌, ◌<◌, List, [], ◌∷◌, ◌++◌, map, length, get_or, Some, ⊤}
use Rattle.std.specs.Io.KnownBytes.{append_known}
use Rattle.zb_base.specs.declared.key.Key.{Key}
use Rattle.zb_disk.specs.Memory.{Medium}
use Rattle.zb_player_events.specs.Acts.{act_for}
use Rattle.zb_player_events.specs.Seats.{AreSeats}
use Rattle.zb_player_events.specs.declared.acts.Act.{Act}
use Rattle.zb_player_events.specs.Calls.{calls_of}
use Rattle.zb_player_events.specs.Told.{Calls, IsTold}
use Rattle.zb_model.specs.Data.{Station}
use Rattle.zb_model.specs.Lines.{Line}
use Rattle.zb_model.specs.Play.{Disk, Schedule, Step, Event, setting_of, stations, step}
use Rattle.zb_model_real.specs.Real.{real}
use Rattle.zb_model.specs.Schedules.{CountsCalls}
use Rattle.law_schedules.specs.Schedules.{event_for, schedule_of, stations_for}
use Rattle.law_run_steps.specs.Conditions.{Condition, condition_of}
use Rattle.law_run_steps.specs.Swaps.{Passed, node_of, passed}
use Rattle.zb_player_events.specs.Nodes.{AllIn}
use Rattle.zb_player.specs.declared.run.Run.{Run}
use Rattle.zb_trace_model.specs.Said.{text_of}
use Rattle.zb_sched.specs.Schedules as sched
use Rattle.zb_sched.specs.Valid.{FitsSchedule}
use Rattle.zb_sched_line.specs.Said as said

-- Each condition has the setting that the schedule gives the node.
abbrev pub AreSettings : Schedule → (ℕ → Condition) → Type 0
AreSettings w xs = (n : ℕ) → (xs n).setting ≡ setting_of w n

-- The run of a schedule stands, after these lines and with its nodes in these conditions. No generation on a disk is
-- past the latest by more than one.
pub record RunIn (p : sched.Schedule) (h : List Line) (xs : ℕ → Condition) (latest : ℕ) (run : Run)
    (disks : List Medium) : Type 0 where
  pub told : IsTold (schedule_of p) h run.ledger
  pub settings : AreSettings (schedule_of p) xs
  pub nodes : AllIn xs latest (stations (schedule_of p)) run.nodes.items disks
  pub seats : AreSeats run.seats (stations (schedule_of p))
  pub draws : map (λ (k : Key). k.0) run.draws.now ≡ p.draws

-- It stands as these lines say with these disks of the model, before the event of that number.
abbrev pub RunStands : sched.Schedule → List Line → List Disk → ℕ → Run → List Medium → Type 0
RunStands p h ds number run disks = RunIn p h (condition_of (schedule_of p) h ds) number run disks

-- The run went on by a step.
pub record RunGoes (p : sched.Schedule) (g : Step) (h : List Line) (number : ℕ) (old new : Run)
    (disks : List Medium) : Type 0 where
  pub page : new.ledger.transcript.page ≡ append_known old.ledger.transcript.page (text_of (stations (schedule_of p))
      g.lines)
  pub stands : RunStands p (h ++ g.lines) g.disks (number + 1) new disks

-- what comes of an event whose node is in one of these conditions
abbrev pub passed_by : sched.Schedule → List Line → (ℕ → Condition) → ℕ → Event → Passed
passed_by p h xs number event = passed real (schedule_of p) h xs number event (node_of event)

-- The run went on by what passed.
pub record RunPasses (p : sched.Schedule) (g : Passed) (h : List Line) (latest : ℕ) (old new : Run)
    (disks : List Medium) : Type 0 where
  pub page : new.ledger.transcript.page ≡ append_known old.ledger.transcript.page (text_of (stations (schedule_of p))
      g.lines)
  pub stands : RunIn p (h ++ g.lines) g.nodes (latest + 1) new disks

-- Each disk made the number of device calls that is said for the EUI of its node.
abbrev pub AreCalled : (ℕ → ℕ) → List Station → List Medium → List Medium → Type 0
AreCalled made [] [] [] = ⊤
AreCalled made (q ∷ qs) (m ∷ ms) (m' ∷ ms') = Calls (made q.eui) m m' × AreCalled made qs ms ms'
AreCalled made _ _ _ = ⊥

-- those of one event
abbrev pub AreCalledBy : sched.Schedule → List Line → List Disk → Event → List Medium → List Medium → Type 0
AreCalledBy p h ds event old new' =
    AreCalled (λ (n : ℕ). calls_of real (schedule_of p) h ds n event) (stations (schedule_of p)) old new'

abbrev pub step_of : sched.Schedule → List Line → List Disk → ℕ → Event → Step
step_of p h ds number act = step real (schedule_of p) h ds number act

-- The event is of the declared node at that place, and counts device calls from 1.
pub record IsEventAt (p : sched.Schedule) (place : ℕ) (q : Station) (act : Act) (event : Event) : Type 0 where
  pub bound : place < length (stations (schedule_of p))
  pub station : get_or (stations (schedule_of p)) place q ≡ q
  pub event_is : act_for q.eui act ≡ Some event
  pub calls : CountsCalls event

-- What an event asks of a schedule: it fits it, and the model's event counts device calls from 1.
pub record FitsRun (p : sched.Schedule) (number : ℕ) (e : said.Event) : Type 0 where
  pub early : number < 2 ^ 32
  pub fits : FitsSchedule p e
  pub calls : CountsCalls (event_for (stations_for p) e)
