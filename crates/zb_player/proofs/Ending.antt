-- The start of a run and its end, as the program has them.
use Rattle.std.proofs.Common.{◌≡◌, ℕ, List, [], ◌∷◌, ◌++◌, map, drop, length, take, refl, sym, ap, ◌∙◌, subst, append-nil}
use Rattle.std.proofs.Math.Seq.{take-append_seam}
use Rattle.zb_base.specs.declared.key.Key.{Key}
use Rattle.zb_disk.specs.Memory.{Medium}
use Rattle.zb_player_events.specs.Seats.{AreSeats}
use Rattle.zb_model.specs.Data.{Station}
use Rattle.zb_model.specs.Lines.{Line}
use Rattle.zb_model.specs.Play.{start, stations}
use Rattle.law_run.proofs.ConfirmsRuns.{start-stations}
use Rattle.law_schedules.specs.Schedules.{schedule_of, station_for}
use Rattle.law_schedules.proofs.Meets.{same_stations}
use Rattle.zb_player_events.specs.Nodes.{AllStand}
use Rattle.zb_player.specs.Playing.{RunStands}
use Rattle.zb_player.specs.Runs.{IsPlayed}
use Rattle.zb_player.specs.declared.run.Run.{Run}
use Rattle.zb_trace_model.specs.Said.{IsLineOf, line_text, text_of}
use Rattle.zb_sched.specs.Schedules as sched
use Rattle.zb_sched.specs.Schedules.{node_of}
use Rattle.zb_sched.specs.Valid.{IsSchedule}
use Rattle.zb_sched.specs.declared.schedule.Schedule.{Schedule as CodeSchedule}
use Rattle.zb_sched.specs.declared.schedule.Node.{Node as CodeNode}
use Rattle.zb_player_scribe.specs.Kept.{Kept}
use Rattle.zb_sched_line.specs.Views.{event_of}
use Rattle.zb_sched_line.specs.declared.event.Event.{Event as CodeEvent}
use Rattle.zb_trace.specs.Text.{text}
use Rattle.zb_trace.specs.declared.line.Line.{Line as Printed}

-- the run of a schedule at its start
pub started : (schedule : CodeSchedule) (declared : List CodeNode) (run : Run) (disks : List Medium) → declared
    ≡ schedule.nodes
    → Kept (start (schedule_of (sched.schedule_of schedule))) run.ledger.transcript.scribe
    → AllStand (schedule_of (sched.schedule_of schedule)) (start (schedule_of (sched.schedule_of schedule))) [] 1
    (stations (schedule_of (sched.schedule_of schedule))) run.nodes.items disks
    → AreSeats run.seats (map station_for (map node_of declared)) → run.draws.now ≡ schedule.draws
    → RunStands (sched.schedule_of schedule) (start (schedule_of (sched.schedule_of schedule))) [] 1 run disks
started schedule declared run disks nodes kept all seats draws =
    let p = sched.schedule_of schedule in
    record {
      told = record { known = start-stations (schedule_of p); kept = kept };
      settings = λ n. refl;
      nodes = all;
      seats = subst (AreSeats run.seats) (ap (λ ds. map station_for (map node_of ds)) nodes ∙ sym (same_stations p))
          seats;
      draws = ap (map (λ (k : Key). k.0)) draws;
    }

-- the events that are played are the schedule's
pub are_played : (schedule : CodeSchedule) (events : List CodeEvent) → IsSchedule (sched.schedule_of schedule)
    → events ≡ schedule.events
    → IsPlayed (sched.schedule_of schedule) (map event_of events)
are_played schedule events is same = record { schedule = is; events_are = ap (map event_of) same }

-- the text of the last line
pub last_text : (known : List Station) (line : Printed) (m last : Line) → IsLineOf known line m → m ≡ last → text line
    ≡ text_of known (last ∷ [])
unfolding text_of
last_text known line m last is same = is.text_is ∙ ap (line_text known) same ∙ sym (append-nil (line_text known last))

-- the disks of a vector, once a slice of it was written
pub disks_kept : (n : ℕ) (now items : List Medium) → length now ≡ n → take n (now ++ drop (length now) items) ≡ now
disks_kept n now items long = subst (λ (k : ℕ). take k (now ++ drop (length now) items) ≡ now) long
    (take-append_seam now (drop (length now) items))
