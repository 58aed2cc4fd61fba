-- What a node sends may be sealed, so a frame is sent exactly if the rule sends one.
use Rattle.std.specs.Prelude.{ℕ, ◌≡◌, true, List, Option, is_some}
use Rattle.zb_model.specs.Data.{Task}
use Rattle.zb_model.specs.Lines.{Line}
use Rattle.zb_model.specs.State.{NodeState}
use Rattle.zb_model.specs.Tools.{Tools}
use Rattle.zb_model.specs.Rules.{Setting, Sending, Outcome}
use Rattle.zb_model.specs.Answer.{Counting, may_seal, out_of, plan_of, sending_of, sent}
use Rattle.zb_model.specs.Readings.{state_of}
use Rattle.zb_model.specs.Play.{Schedule, setting_of}

-- Neither the test in `out_of` nor a missing active row decides: what is sent passes the test, the frame is that of
-- `sent`, and there is one. This is so with any counters.
pub record IsSealable (tools : Tools) (c : Setting) (s : NodeState) (send : Option Sending) : Type 0 where
  pub may : may_seal s send ≡ true
  pub as_sent : (k : Counting) → out_of tools c s k send ≡ sent tools c s k send
  pub has_frame : (k : Counting) → is_some (out_of tools c s k send).frame ≡ is_some send

-- what a node would send after the lines, whatever it is to do
abbrev pub outcome_of : Tools → Schedule → List Line → ℕ → Task → Outcome
outcome_of tools w h n task = (plan_of tools (setting_of w n) (state_of h n) task).outcome

abbrev pub SendsSealable : Tools → Schedule → List Line → Type 0
SendsSealable tools w h = (n : ℕ) (task : Task) → IsSealable tools (setting_of w n) (state_of h n)
    (sending_of (outcome_of tools w h n task))
