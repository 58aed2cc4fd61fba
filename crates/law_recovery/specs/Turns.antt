-- An exchange of link keys in which frames are lost. It has turns: the device's timer runs, its frame is delivered to
-- the centre, and the centre's frame to the device. If a frame is lost, the turn ends with it, and the next turn
-- begins with the timer again.
use Rattle.std.specs.Prelude.{ℕ, ◌+◌, List, [], ◌∷◌, length, fold, ⊤}
use Rattle.zb_model.specs.Data.{DoTimer}
use Rattle.zb_model.specs.Play.{Schedule, Event, Own, Deliver}
use Rattle.zb_model.specs.Readings.{air}
use Rattle.zb_model.specs.Tools.{Tools}
use Rattle.law_recovery.specs.Fronts.{Front, after_events}

-- `Unheard`: the device's frame is lost. `Unanswered`: the centre's frame is lost. `Answered`: none is.
-- Between turns a frame that the centre or the device refuses may be delivered to it, for example a repeated one, and
-- any event of another node may happen.
pub data Turn : Type 0 where
  Unheard : Turn
  Unanswered : Turn
  Answered : Turn
  Refused : (frame : ℕ) (node : ℕ) → Turn
  Elsewhere : (event : Event) → Turn

-- Each frame is the next on the air.
abbrev pub turn_events : Front → ℕ → ℕ → Turn → List Event
turn_events x c d Unheard = Own d DoTimer ∷ []
turn_events x c d Unanswered = Own d DoTimer ∷ Deliver (length (air x.lines) + 1) c ∷ []
turn_events x c d Answered =
    Own d DoTimer ∷ Deliver (length (air x.lines) + 1) c ∷ Deliver (length (air x.lines) + 2) d ∷ []
turn_events x c d (Refused frame node) = Deliver frame node ∷ []
turn_events x c d (Elsewhere event) = event ∷ []

abbrev pub after_turn : Tools → Schedule → ℕ → ℕ → Front → Turn → Front
after_turn tools w c d x turn = after_events tools w x (turn_events x c d turn)

abbrev pub after_turns : Tools → Schedule → ℕ → ℕ → Front → List Turn → Front
after_turns tools w c d x turns = fold (after_turn tools w c d) x turns

-- The stages of the two: no key is offered; the centre offers one, and the device doesn't have it; the device keeps
-- it; the centre has verified it; the device is confirmed.
pub data Far : Type 0 where
  Asking : Far
  Offering : Far
  Proving : Far
  Proved : Far
  Done : Far

abbrev pub answered_from : Far → Far
answered_from Asking = Proving
answered_from Offering = Proving
answered_from Proving = Done
answered_from Proved = Done
answered_from Done = Done

abbrev pub unanswered_from : Far → Far
unanswered_from Asking = Offering
unanswered_from Offering = Offering
unanswered_from Proving = Proved
unanswered_from Proved = Proved
unanswered_from Done = Done

abbrev pub far_after : Far → Turn → Far
far_after far Unanswered = unanswered_from far
far_after far Answered = answered_from far
far_after far _ = far

abbrev pub far_after_all : Far → List Turn → Far
far_after_all far turns = fold far_after far turns

-- a turn that loses a frame, or an event between turns
abbrev pub Loses : Turn → Type 0
Loses Answered = ⊥
Loses _ = ⊤
