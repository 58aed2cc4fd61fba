-- A schedule's events suit the role of their node, and draws are available while the supply isn't empty.
use Rattle.std.proofs.Common.{ℕ, ◌+◌, List, [], ◌∷◌, ◌++◌}
use Rattle.std.specs.List.{AllByRecursion}
use Rattle.zb_model.specs.Data.{DoRoll}
use Rattle.zb_model.specs.Lines.{Line}
use Rattle.zb_model.specs.Tools.{Tools}
use Rattle.zb_model.specs.Readings.{state_of}
use Rattle.zb_model.specs.Play.{Schedule, Event, Own, RollOver, Disk, setting_of, supply, step, start}
use Rattle.zb_model.specs.Schedules.{IsSchedule, SuitsRole}
use Rattle.law_run.specs.Events.{BeforeEach}
use Rattle.law_run.specs.KeysApart.{KeysApart}
use Rattle.law_run.specs.Opening.{Opens}
use Rattle.law_run_lookups.specs.Granted.{Granted, DrawsAreThere, IsSuited}
use Rattle.law_run_lookups.proofs.FrameLayers.{own-suited}
use Rattle.law_run_lookups.proofs.NoDraws.{roll-no-draw, frame-no-draw}
use Rattle.law_run_lookups.proofs.Standing.{before-map, granted}

event-suited : (tools : Tools) (w : Schedule) (h : List Line) (event : Event) → SuitsRole w event
    → IsSuited tools w h event
event-suited tools w h (Own n task) s = own-suited tools (setting_of w n) (state_of h n) task s
event-suited tools w h (RollOver n) s = own-suited tools (setting_of w n) (state_of h n) (DoRoll (supply w h)) s
event-suited tools w h _ s = tt

all-suited : (tools : Tools) (w : Schedule) (h : List Line) (disks : List Disk) (number : ℕ) (events : List Event)
    → AllByRecursion (SuitsRole w) events → BeforeEach (IsSuited tools w) tools w h disks number events
all-suited tools w h disks number [] a = tt
all-suited tools w h disks number (event ∷ events) a = (
  event-suited tools w h event a.0,
  all-suited tools w (h ++ (step tools w h disks number event).lines)
      (step tools w h disks number event).disks (number + 1) events a.1,
)

pub suited : (tools : Tools) (w : Schedule) → IsSchedule w → BeforeEach (IsSuited tools w) tools w (start w) [] 1
    w.events
suited tools w i = all-suited tools w (start w) [] 1 w.events i.roles

draws-of : (tools : Tools) (w : Schedule) (h : List Line) (n : ℕ) → Granted w h n → DrawsAreThere tools w h n
draws-of tools w h n g =
    record {
      rollovers = λ m e. roll-no-draw tools w h n g m e;
      frames = λ m bytes e. frame-no-draw tools w h n g m
          bytes e;
    }

pub draws : (tools : Tools) → Opens tools → (w : Schedule) → KeysApart w
    → BeforeEach (λ h event. (n : ℕ) → DrawsAreThere tools w h n) tools w (start w) [] 1 w.events
draws tools opens w apart =
    before-map (λ h event. (n : ℕ) → Granted w h n) (λ h event. (n : ℕ) → DrawsAreThere tools w h n)
    (λ h event g n. draws-of tools w h n (g n)) tools w (start w) [] 1 w.events (granted tools opens w apart)
