-- The results of an event of a node in some condition: the lines of the event, and the condition that it leaves. From
-- the lines so far it uses only the frames on the air and the draws, so a node may have any state before it.
use Rattle.std.specs.Prelude.{ℕ, if◌then◌else◌, List, [], ◌∷◌, Option, Some, None}
use Rattle.zb_model.specs.Answer.{Answer, answer}
use Rattle.zb_model.specs.Data.{AtEvent, Bytes, DoRoll, Down, NoFrame, Reason, Received, Task, WrongState}
use Rattle.zb_model.specs.Lines.{Line, Boot, DownReset, Dump, Refuse}
use Rattle.zb_model.specs.Play.{Schedule, Event, Own, RollOver, Deliver, Reset, PowerOn, ShowRecord, ArmStop, ArmFail, FailAt, StopAfter, fallen_line, frame_at, step, supply}
use Rattle.zb_model.specs.Record.{record_of}
use Rattle.zb_model.specs.Tools.{Tools}
use Rattle.law_run_steps.specs.Conditions.{Condition, after_arming, after_cut, after_cut_boot, after_power_on, after_reset, after_whole}
use Rattle.law_run_steps.specs.Steps.{cut_lines, falls_at_boot, falls_on, whole_lines}

pub record Turn : Type 0 where
  pub lines : List Line
  pub left : Condition

abbrev pub turn : List Line → Condition → Turn
turn lines x = record { lines = lines; left = x }

abbrev pub refused_turn : Condition → ℕ → ℕ → Reason → Turn
refused_turn x number n reason = turn (Refuse number n AtEvent reason ∷ []) x

-- If what is armed hits the answer's commit, the stored lines and the fall; otherwise all lines of the answer.
unfoldable pub answer_turn : List Line → Condition → ℕ → ℕ → Answer → Turn
answer_turn h x number n a = if falls_on a x then turn (cut_lines x number n a) (after_cut a x)
    else turn (whole_lines h number n a) (after_whole a x)

unfoldable pub boot_turn : Condition → ℕ → ℕ → Turn
boot_turn x number n = if falls_at_boot x then turn (fallen_line x.disk.armed number n) (after_cut_boot x)
    else turn (Boot number n ∷ []) (after_power_on x)

unfoldable pub task_turn : Tools → List Line → Condition → ℕ → ℕ → Task → Turn
task_turn tools h x number n task = if x.up then answer_turn h x number n (answer tools x.setting x.state task)
    else refused_turn x number n Down

abbrev pub deliver_turn : Tools → Schedule → List Line → Condition → ℕ → ℕ → Option Bytes → Turn
deliver_turn tools w h x number n None = refused_turn x number n (if x.up then NoFrame else Down)
deliver_turn tools w h x number n (Some bytes) = task_turn tools h x number n (Received bytes (supply w h))

-- An event of the outside reads no disk, and leaves each node as it is.
unfoldable pub event_turn : Tools → Schedule → List Line → Condition → ℕ → Event → Turn
event_turn tools w h x number (Own n task) = task_turn tools h x number n task
event_turn tools w h x number (RollOver n) = task_turn tools h x number n (DoRoll (supply w h))
event_turn tools w h x number (Deliver frame n) = deliver_turn tools w h x number n (frame_at h frame)
event_turn tools w h x number (Reset n) = if x.up then turn (DownReset number n ∷ []) (after_reset x)
    else refused_turn x number n Down
event_turn tools w h x number (PowerOn n) = if x.up then refused_turn x number n WrongState else boot_turn x number n
event_turn tools w h x number (ShowRecord n) = turn (Dump number n (record_of x.state) ∷ []) x
event_turn tools w h x number (ArmStop n calls torn) = turn [] (after_arming (StopAfter calls torn) x)
event_turn tools w h x number (ArmFail n call) = turn [] (after_arming (FailAt call) x)
event_turn tools w h x number event = turn (step tools w h [] number event).lines x
