-- An answer that comes too soon is repeated. After a boot a member's floor may be above the centre's counter, and
-- each repeat of the centre's event brings the counter one nearer.
use Rattle.std.specs.Prelude.{ℕ, zero, suc, ◌≡◌, ◌+◌, true, option_map}
use Rattle.zb_model.specs.Data.{Aps, HasChild}
use Rattle.zb_model.specs.Rules.{Setting}
use Rattle.zb_model.specs.State.{NetKey, NodeState, active_row, current, next_counter}
use Rattle.zb_model.specs.Tools.{Tools}
use Rattle.law_recovery.specs.Answering.{after_task, IsTaken}

-- the centre after it answered a child that number of times
unfoldable pub repeated : Tools → Setting → ℕ → ℕ → NodeState → NodeState
repeated tools c device zero s = s
repeated tools c device (suc n) s = repeated tools c device n (after_task tools c s (HasChild device true))

-- none of that many answers is refused
abbrev pub AreTaken : Tools → Setting → ℕ → ℕ → NodeState → Type 0
AreTaken tools c device zero s = Unit {0}
AreTaken tools c device (suc n) s = IsTaken tools c s (HasChild device true)
    × AreTaken tools c device n (after_task tools c s (HasChild device true))

-- The centre has the same active network key and the same link key of the device; its counter has risen.
pub record WentOn (s u : NodeState) (device frames : ℕ) : Type 0 where
  pub key : option_map (λ (r : NetKey). r.key) (active_row u) ≡ option_map (λ (r : NetKey). r.key) (active_row s)
  pub sequence : option_map (λ (r : NetKey). r.sequence) (active_row u)
      ≡ option_map (λ (r : NetKey). r.sequence) (active_row s)
  pub link : current u device ≡ current s device
  pub counter : next_counter Aps u ≡ next_counter Aps s + frames
