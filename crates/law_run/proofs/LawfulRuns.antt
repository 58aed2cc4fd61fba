-- A transcript is lawful: each group is an answer to its event.
use Rattle.std.proofs.Common.{◌≡◌, ℕ, ◌+◌, List, [], ◌∷◌, ◌++◌, Option, Some, None, refl}
use Rattle.zb_model.specs.Data.{Bytes, Task, Received, DoRoll}
use Rattle.zb_model.specs.Lines.{Line}
use Rattle.zb_model.specs.Tools.{Tools}
use Rattle.zb_model.specs.Answer.{Counting, counting_of, plan_of}
use Rattle.zb_model.specs.Readings.{state_of}
use Rattle.zb_model.specs.Play.{Schedule, Event, Own, RollOver, Deliver, Reset, PowerOn, ShowRecord, ArmStop, ArmFail, InjectBytes, ForgeNet, ForgeNetAps, ForgeOpen, Disk, setting_of, supply, frame_at, task_step, deliver_step, step_by, step, groups, start}
use Rattle.zb_model.specs.Transcript.{run_lines, transcript}
use Rattle.zb_model.specs.Claims.{Answers, LawfulFrom, Lawful}

-- the counters of an event that takes none
no_counters : Counting
no_counters = record { counter = λ layer. 0; reserve = λ layer. None; floor = λ layer. None; start = None }

taken : Tools → Schedule → List Line → ℕ → Task → Counting
taken tools w h n task = counting_of (setting_of w n) (state_of h n)
    (plan_of tools (setting_of w n) (state_of h n) task)

task-answers : (tools : Tools) (w : Schedule) (h : List Line) (disks : List Disk) (number n : ℕ) (task : Task)
    → (k : Counting)
    × (task_step tools counting_of w h disks number n task ≡ task_step tools (λ c s p. k) w h disks number n task)
unfolding task_step taken
task-answers tools w h disks number n task = (taken tools w h n task, refl)

deliver-answers : (tools : Tools) (w : Schedule) (h : List Line) (disks : List Disk) (number n : ℕ) (o : Option Bytes)
    → (k : Counting)
    × (deliver_step tools counting_of w h disks number n o ≡ deliver_step tools (λ c s p. k) w h disks number n o)
deliver-answers tools w h disks number n None = (no_counters, refl)
deliver-answers tools w h disks number n (Some bytes) =
    task-answers tools w h disks number n (Received bytes (supply w h))

answers : (tools : Tools) (w : Schedule) (h : List Line) (disks : List Disk) (number : ℕ) (event : Event)
    → Answers tools w h disks number event (step tools w h disks number event)
unfolding step step_by
answers tools w h disks number (Own n task) = task-answers tools w h disks number n task
answers tools w h disks number (RollOver n) = task-answers tools w h disks number n (DoRoll (supply w h))
answers tools w h disks number (Deliver frame n) = deliver-answers tools w h disks number n (frame_at h frame)
answers tools w h disks number (Reset n) = (no_counters, refl)
answers tools w h disks number (PowerOn n) = (no_counters, refl)
answers tools w h disks number (ShowRecord n) = (no_counters, refl)
answers tools w h disks number (ArmStop n calls torn) = (no_counters, refl)
answers tools w h disks number (ArmFail n call) = (no_counters, refl)
answers tools w h disks number (InjectBytes bytes) = (no_counters, refl)
answers tools w h disks number (ForgeNet to from source key sequence counter content) = (no_counters, refl)
answers tools w h disks number (ForgeNetAps to from source key sequence counter label base aps_counter command) =
    (no_counters, refl)
answers tools w h disks number (ForgeOpen to from source label base aps_counter command) = (no_counters, refl)

lawful-from : (tools : Tools) (w : Schedule) (h : List Line) (disks : List Disk) (number : ℕ) (events : List Event)
    → LawfulFrom tools w h disks number events (groups tools w h disks number events)
unfolding groups
lawful-from tools w h disks number [] = refl
lawful-from tools w h disks number (event ∷ events) = (
  step tools w h disks number event,
  groups tools w (h ++ (step tools w h disks number event).lines) (step tools w h disks number event).disks
      (number + 1) events,
  refl,
  answers tools w h disks number event,
  lawful-from tools w (h ++ (step tools w h disks number event).lines) (step tools w h disks number event).disks
      (number + 1) events,
)

pub lawful : (tools : Tools) (w : Schedule) → Lawful tools w (transcript tools w)
unfolding transcript run_lines
lawful tools w = (groups tools w (start w) [] 1 w.events, refl, lawful-from tools w (start w) [] 1 w.events)
