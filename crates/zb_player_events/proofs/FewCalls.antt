-- No event makes more than six device calls.
use Rattle.std.proofs.Common.{◌≡◌, ℕ, ◌+◌, ◌*◌, ◌≤◌, Bool, true, false, cond, List, [], ◌∷◌, ◌++◌, length, Option, Some, None, refl, arith, ltb-true, leb-true}
use Rattle.zb_model.specs.Answer.{answer}
use Rattle.zb_model.specs.Data.{Bytes, Task, DoRoll, Received}
use Rattle.zb_model.specs.Lines.{Line}
use Rattle.zb_model.specs.Play.{Schedule, Disk, Event, Own, RollOver, Deliver, Reset, PowerOn, ShowRecord, ArmStop, ArmFail, InjectBytes, ForgeNet, ForgeNetAps, ForgeOpen, Armed, NotArmed, StopAfter, FailAt, Calls, NoCalls, EntryCalls, RecordCalls, BootCalls, count_of, falls, frame_at, step, supply}
use Rattle.zb_model.specs.Tools.{Tools}
use Rattle.zb_player_events.specs.Calls.{fallen_call, made_of, task_calls, frame_calls, event_calls, calls_of, run_calls}
use Rattle.law_run_steps.specs.Conditions.{Condition, condition_of, calls_by}
use Rattle.law_run_steps.specs.Steps.{is_of}

few-of : (calls : Calls) → count_of calls ≤ 6
few-of NoCalls = omega arith
few-of EntryCalls = omega arith
few-of RecordCalls = omega arith
few-of (BootCalls true) = omega arith
few-of (BootCalls false) = omega arith

fallen-few : (armed : Armed) (calls : Calls) → falls armed calls ≡ true → fallen_call armed ≤ 6
fallen-few NotArmed calls e = omega arith
fallen-few (StopAfter k torn) calls e = omega (arith, ltb-true k (count_of calls) e, few-of calls)
fallen-few (FailAt k) calls e = omega (arith, leb-true k (count_of calls) e, few-of calls)

few-made : (armed : Armed) (calls : Calls) → made_of armed calls ≤ 6
unfolding made_of
few-made armed calls = by-test (falls armed calls) refl
  where
    by-test : (b : Bool) → falls armed calls ≡ b → cond b (fallen_call armed) (count_of calls) ≤ 6
    by-test true e = fallen-few armed calls e
    by-test false e = few-of calls

none-or : (b : Bool) (n : ℕ) → n ≤ 6 → cond b n 0 ≤ 6
none-or true n few = few
none-or false n few = omega arith

or-none : (b : Bool) (n : ℕ) → n ≤ 6 → cond b 0 n ≤ 6
or-none true n few = omega arith
or-none false n few = few

few-tasked : (tools : Tools) (x : Condition) (task : Task) → task_calls tools x task ≤ 6
few-tasked tools x task =
    none-or x.up (made_of x.disk.armed (calls_by x.commits (answer tools x.setting x.state task).edits))
    (few-made x.disk.armed (calls_by x.commits (answer tools x.setting x.state task).edits))

few-framed : (tools : Tools) (x : Condition) (draw found : Option Bytes) → frame_calls tools x draw found ≤ 6
few-framed tools x draw None = omega arith
few-framed tools x draw (Some bytes) = few-tasked tools x (Received bytes draw)

few-in : (tools : Tools) (w : Schedule) (h : List Line) (x : Condition) (event : Event)
    → event_calls tools w h x event ≤ 6
unfolding event_calls
few-in tools w h x (Own n task) = few-tasked tools x task
few-in tools w h x (RollOver n) = few-tasked tools x (DoRoll (supply w h))
few-in tools w h x (Deliver frame n) = few-framed tools x (supply w h) (frame_at h frame)
few-in tools w h x (PowerOn n) = or-none x.up (made_of x.disk.armed (BootCalls x.disk.both_open))
    (few-made x.disk.armed (BootCalls x.disk.both_open))
few-in tools w h x (Reset n) = omega arith
few-in tools w h x (ShowRecord n) = omega arith
few-in tools w h x (ArmStop n calls torn) = omega arith
few-in tools w h x (ArmFail n call) = omega arith
few-in tools w h x (InjectBytes bytes) = omega arith
few-in tools w h x (ForgeNet to from source key sequence counter content) = omega arith
few-in tools w h x (ForgeNetAps to from source key sequence counter label base aps_counter command) = omega arith
few-in tools w h x (ForgeOpen to from source label base aps_counter command) = omega arith

few-calls : (tools : Tools) (w : Schedule) (h : List Line) (ds : List Disk) (n : ℕ) (event : Event)
    → calls_of tools w h ds n event ≤ 6
unfolding calls_of
few-calls tools w h ds n event = none-or (is_of n event) (event_calls tools w h (condition_of w h ds n) event)
    (few-in tools w h (condition_of w h ds n) event)

pub few_in_run : (tools : Tools) (w : Schedule) (h : List Line) (ds : List Disk) (number : ℕ) (events : List Event)
    (n : ℕ) → run_calls tools w h ds number events n ≤ 6 * length events
unfolding run_calls
few_in_run tools w h ds number [] n = omega arith
few_in_run tools w h ds number (event ∷ events) n =
    let g = step tools w h ds number event in
    omega (arith, few-calls tools w h ds n event, few_in_run tools w (h ++ g.lines) g.disks (number + 1) events n)
