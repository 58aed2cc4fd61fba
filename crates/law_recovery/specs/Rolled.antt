-- The end of a rollover as events of a run.
use Rattle.std.specs.Prelude.{ℕ, zero, suc, ◌≡◌, false, List, [], ◌∷◌}
use Rattle.zb_model.specs.Data.{DoTimer, DoSwitch}
use Rattle.zb_model.specs.Play.{Event, Own}
use Rattle.zb_model.specs.Readings.{state_of}
use Rattle.law_recovery.specs.Fronts.{Front, IsReady}

-- the centre's timer that many times, and then its switch
unfoldable pub rollover_events : ℕ → ℕ → List Event
rollover_events c zero = Own c DoSwitch ∷ []
rollover_events c (suc timers) = Own c DoTimer ∷ rollover_events c timers

-- no rollover is under way any more, and the centre is ready
pub record EndsRolled (x : Front) (c : ℕ) : Type 0 where
  pub over : (state_of x.lines c).sending ≡ false
  pub ready : IsReady x c
