-- The device calls that the events of a run make of the disk of their node.
use Rattle.std.specs.Prelude.{ℕ, ◌+◌, if◌then◌else◌, List, [], ◌∷◌, ◌++◌, Option, Some, None}
use Rattle.zb_model.specs.Answer.{answer}
use Rattle.zb_model.specs.Data.{Bytes, Task, DoRoll, Received}
use Rattle.zb_model.specs.Lines.{Line}
use Rattle.zb_model.specs.Play.{Schedule, Disk, Event, Own, RollOver, Deliver, PowerOn, Armed, NotArmed, StopAfter, FailAt, Calls, BootCalls, count_of, falls, frame_at, step, supply}
use Rattle.zb_model.specs.Tools.{Tools}
use Rattle.law_run_steps.specs.Conditions.{Condition, condition_of, calls_by}
use Rattle.law_run_steps.specs.Steps.{is_of}

-- the call on which what is armed falls: a stop after a number of calls falls on the next one
abbrev pub fallen_call : Armed → ℕ
fallen_call NotArmed = 0
fallen_call (StopAfter calls torn) = calls + 1
fallen_call (FailAt call) = call

-- How many of these calls are made: all, or where what is armed falls on them those up to the one on which it falls.
unfoldable pub made_of : Armed → Calls → ℕ
made_of armed calls = if falls armed calls then fallen_call armed else count_of calls

-- The calls of an event that a node in this condition has to answer. A node without power answers no event, so there
-- are none.
abbrev pub task_calls : Tools → Condition → Task → ℕ
task_calls tools x task = if x.up
    then made_of x.disk.armed (calls_by x.commits (answer tools x.setting x.state task).edits) else 0

-- those of a frame, where there is one of its number
abbrev pub frame_calls : Tools → Condition → Option Bytes → Option Bytes → ℕ
frame_calls tools x draw None = 0
frame_calls tools x draw (Some bytes) = task_calls tools x (Received bytes draw)

-- The calls of an event of the node that is in this condition. A boot of a node that has power makes none.
unfoldable pub event_calls : Tools → Schedule → List Line → Condition → Event → ℕ
event_calls tools w h x (Own n task) = task_calls tools x task
event_calls tools w h x (RollOver n) = task_calls tools x (DoRoll (supply w h))
event_calls tools w h x (Deliver frame n) = frame_calls tools x (supply w h) (frame_at h frame)
event_calls tools w h x (PowerOn n) = if x.up then 0 else made_of x.disk.armed (BootCalls x.disk.both_open)
event_calls tools w h x _ = 0

-- the calls that an event makes of the disk of the node n: none where it is of another
unfoldable pub calls_of : Tools → Schedule → List Line → List Disk → ℕ → Event → ℕ
calls_of tools w h ds n event = if is_of n event then event_calls tools w h (condition_of w h ds n) event else 0

-- The calls that events make of the disk of the node n, from the event of that number on.
unfoldable pub run_calls : Tools → Schedule → List Line → List Disk → ℕ → List Event → ℕ → ℕ
run_calls tools w h ds number [] n = 0
run_calls tools w h ds number (event ∷ events) n =
    let g = step tools w h ds number event in
    calls_of tools w h ds n event + run_calls tools w (h ++ g.lines) g.disks (number + 1) events n
