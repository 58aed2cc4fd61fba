-- How a node answers one event, and its state afterwards.
use Rattle.std.specs.Prelude.{◌≡◌, Option, None, Some}
use Rattle.zb_model.specs.Answer.{answer, answered}
use Rattle.zb_model.specs.Data.{Bytes, Reason, Task}
use Rattle.zb_model.specs.Rules.{Setting}
use Rattle.zb_model.specs.State.{NodeState}
use Rattle.zb_model.specs.Tools.{Tools}

-- the state after the answer to an event was stored and sent
unfoldable pub after_task : Tools → Setting → NodeState → Task → NodeState
after_task tools c s task = answered (answer tools c s task) s

abbrev pub IsTaken : Tools → Setting → NodeState → Task → Type 0
IsTaken tools c s task = (answer tools c s task).refusal ≡ None

abbrev pub IsRefused : Tools → Setting → NodeState → Task → Reason → Type 0
IsRefused tools c s task reason = (answer tools c s task).refusal ≡ Some reason

-- the frame that is sent
abbrev pub frame_of : Tools → Setting → NodeState → Task → Option Bytes
frame_of tools c s task = (answer tools c s task).frame
