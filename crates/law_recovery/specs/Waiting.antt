-- A device that knocked waits for a network key. If the frame that brings it is lost, the centre sends another one.
use Rattle.std.specs.Prelude.{ℕ, ◌≡◌, ◌+◌}
use Rattle.zb_model.specs.Data.{Aps}
use Rattle.zb_model.specs.Play.{Schedule}
use Rattle.zb_model.specs.Readings.{state_of}
use Rattle.zb_model.specs.State.{next_counter}
use Rattle.law_recovery.specs.Fronts.{Front}
use Rattle.law_recovery.specs.RunsJoining.{CanJoin}
use Rattle.law_recovery.specs.KeyExchange.{IsNew}

-- At a later front the device may join as at the one before, with the same keys. The centre has used one counter.
pub record JoinsAgain (w : Schedule) (x y : Front) (c d : ℕ) (can : CanJoin w x c d) : Type 0 where
  pub again : CanJoin w y c d
  pub is_new : IsNew w y c d again
  pub network : again.introduced.net.key ≡ can.introduced.net.key
  pub sequence : again.introduced.net.sequence ≡ can.introduced.net.sequence
  pub link : again.introduced.row.key ≡ can.introduced.row.key
  pub counter : next_counter Aps (state_of y.lines c) ≡ next_counter Aps (state_of x.lines c) + 1
