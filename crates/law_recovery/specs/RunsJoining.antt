-- A device that knocked joins, as events that follow the front of a run.
use Rattle.std.specs.Prelude.{ℕ, ◌≡◌, ◌+◌, true, false, List, [], ◌∷◌, length, Some, None, nat_eq}
use Rattle.zb_model.specs.Data.{Aps, Bytes, HasChild}
use Rattle.zb_model.specs.Fits.{keeps_rules}
use Rattle.zb_model.specs.Play.{Schedule, Event, Own, Deliver, setting_of}
use Rattle.zb_model.specs.Readings.{air, state_of}
use Rattle.zb_model.specs.State.{next_counter}
use Rattle.law_recovery.specs.Joining.{AreIntroduced, HasJoined}
use Rattle.law_recovery.specs.KeyFrames.{KeyFrameInRange}
use Rattle.law_recovery.specs.Rejoining.{AreOfOneNetwork, answer_frame, why_not_sent, why_not_taken}
use Rattle.law_recovery.specs.Fronts.{Front, IsReady}

-- The two events: the centre answers its child, and the next frame on the air, which is its answer, is delivered.
abbrev pub join_events : Front → ℕ → ℕ → List Event
join_events x c d = Own c (HasChild d false) ∷ Deliver (length (air x.lines) + 1) d ∷ []

-- A centre c and a device d that knocked, at a front at which none of the obstacles holds.
pub record CanJoin (w : Schedule) (x : Front) (c d : ℕ) : Type 0 where
  pub apart : nat_eq d c ≡ false
  pub mine : (setting_of w d).me.eui ≡ d
  pub network : AreOfOneNetwork (setting_of w c) (setting_of w d)
  pub centre_ready : IsReady x c
  pub device_ready : IsReady x d
  pub rules : keeps_rules (state_of x.lines d) ≡ true
  pub role : (state_of x.lines d).role ≡ (setting_of w d).me.role
  pub introduced : AreIntroduced (setting_of w c) (setting_of w d) (state_of x.lines c) (state_of x.lines d)
  pub in_range : KeyFrameInRange
      (answer_frame (setting_of w c) (setting_of w d) (state_of x.lines c) introduced.net introduced.row)
  pub not_stopped : why_not_sent (state_of x.lines c) d ≡ None
  pub not_refused : why_not_taken (state_of x.lines d) introduced.own (next_counter Aps (state_of x.lines c))
      introduced.net.key ≡ None

-- The device is joined with the centre's active network key, and both nodes are ready.
pub record EndsJoined (x : Front) (c d : ℕ) : Type 0 where
  pub key : Bytes
  pub active_key : (state_of x.lines c).active ≡ Some key
  pub device : HasJoined (state_of x.lines d) key
  pub centre_ready : IsReady x c
  pub device_ready : IsReady x d
