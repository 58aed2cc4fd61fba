-- An exchange of link keys event by event, in which nodes are reset, stopped at any device call, and booted. If a
-- disk cuts an event, its node is as before the event, or the changes of its answer are stored.
use Rattle.std.specs.Prelude.{ℕ, ◌≡◌, ◌⊎◌, Bool, false, not, ◌&&◌, ◌||◌, if◌then◌else◌, List, [], ◌∷◌, fold, Some, None, nat_eq, ⊤}
use Rattle.zb_model.specs.Answer.{Answer, answer}
use Rattle.zb_model.specs.Data.{DoTimer, Received}
use Rattle.zb_model.specs.Play.{Schedule, Event, Own, RollOver, Deliver, frame_at, setting_of, stands, supply}
use Rattle.zb_model.specs.Readings.{is_up, state_of}
use Rattle.zb_model.specs.State.{NodeState}
use Rattle.zb_model.specs.Tools.{Tools}
use Rattle.law_recovery.specs.Exchanging.{StationsInRange}
use Rattle.law_recovery.specs.Meeting.{AreDeclared, HasNetwork, IsSteady}
use Rattle.law_recovery.specs.Obstacles.{why_not_sealed}
use Rattle.law_recovery.specs.Fronts.{Front, after_event}
use Rattle.law_recovery.specs.KeyExchange.{eui_of}
use Rattle.law_run_steps.specs.Conditions.{calls_by, condition_of}
use Rattle.law_run_steps.specs.Steps.{falls_on, is_of}
use Rattle.law_recovery.specs.Stages.{Keys, DeviceIs, CentreHas, Sends, CentreTakes, DeviceTakes, IsRefused, asked_bytes, centre_seals, device_seals, told_bytes}
use Rattle.law_recovery.specs.Turns.{Far, Offering, Proving, Proved, Done, unanswered_from}

-- A centre c and a device d are at this stage with these keys, whether they have power or not, and whatever is armed.
pub record HaveKept (w : Schedule) (x : Front) (c d : ℕ) (k : Keys) (far : Far) : Type 0 where
  pub apart : nat_eq d c ≡ false
  pub declared : AreDeclared (setting_of w c) (setting_of w d)
  pub stations : StationsInRange (setting_of w c) (setting_of w d)
  pub centre_steady : IsSteady (setting_of w c) (state_of x.lines c)
  pub device_steady : IsSteady (setting_of w d) (state_of x.lines d)
  pub network : HasNetwork (state_of x.lines c) k.network k.sequence
  pub device : DeviceIs far (state_of x.lines d) (eui_of w c) k
  pub centre : CentreHas far (state_of x.lines c) (eui_of w d) k

-- ---- what happens

-- What happens in this exchange.
pub data Happening : Type 0 where
  -- the device's timer runs
  Timer : Happening
  -- the frame of this number, which the device sealed in this state, is delivered to the centre
  Hearing : (frame : ℕ) (sealed : NodeState) → Happening
  -- the frame of this number, which the centre sealed in this state, is delivered to the device
  Taking : (frame : ℕ) (sealed : NodeState) → Happening
  -- a frame is delivered to one of the two, which refuses it
  Repelling : (frame : ℕ) (node : ℕ) → Happening
  -- an event of another node, or one that no node answers
  Idle : (event : Event) → Happening

abbrev pub happening_event : ℕ → ℕ → Happening → Event
happening_event c d Timer = Own d DoTimer
happening_event c d (Hearing frame sealed) = Deliver frame c
happening_event c d (Taking frame sealed) = Deliver frame d
happening_event c d (Repelling frame node) = Deliver frame node
happening_event c d (Idle event) = event

abbrev pub after_happening : Tools → Schedule → ℕ → ℕ → Front → Happening → Front
after_happening tools w c d x happening = after_event tools w x (happening_event c d happening)

abbrev pub after_happenings : Tools → Schedule → ℕ → ℕ → Front → List Happening → Front
after_happenings tools w c d x happenings = fold (after_happening tools w c d) x happenings

-- ---- the results

-- The node has power. No armed stop or failure hits the commit of the answer, or the commit is stored all the same.
abbrev pub stored_by : Bool → Bool → Bool → Bool
stored_by up falls stand = up && (not falls || stand)

-- whether a node stores the changes of this answer
abbrev pub is_stored : Schedule → Front → ℕ → Answer → Bool
is_stored w x n a =
    let y = condition_of w x.lines x.disks n in
    stored_by y.up (falls_on a y) (stands y.disk.armed (calls_by y.commits a.edits))

-- the centre's answer to the device's frame, and the device's answer to the centre's
abbrev pub heard_answer : Tools → Schedule → Front → ℕ → ℕ → Keys → Far → NodeState → Answer
heard_answer tools w x c d k far sealed =
    answer tools (setting_of w c) (state_of x.lines c)
    (Received (asked_bytes far tools w c d (device_seals far sealed k)) (supply w x.lines))

abbrev pub taken_answer : Tools → Schedule → Front → ℕ → ℕ → Keys → Far → NodeState → Answer
taken_answer tools w x c d k far sealed =
    answer tools (setting_of w d) (state_of x.lines d)
    (Received (told_bytes far tools w c d k (centre_seals far sealed k)) (supply w x.lines))

-- the device has accepted the centre's frame
abbrev pub taken_from : Far → Far
taken_from Offering = Proving
taken_from Proved = Done
taken_from far = far

-- The stage of the two then. A frame leads to the next stage if its receiver stores the changes of its answer.
abbrev pub kept_far : Tools → Schedule → ℕ → ℕ → Keys → Front → Far → Happening → Far
kept_far tools w c d k x far (Hearing frame sealed) = if is_stored w x c (heard_answer tools w x c d k far sealed)
    then unanswered_from far else far
kept_far tools w c d k x far (Taking frame sealed) = if is_stored w x d (taken_answer tools w x c d k far sealed)
    then taken_from far else far
kept_far tools w c d k x far _ = far

abbrev pub kept_far_all : Tools → Schedule → ℕ → ℕ → Keys → Front → Far → List Happening → Far
kept_far_all tools w c d k x far [] = far
kept_far_all tools w c d k x far (h ∷ hs) = kept_far_all tools w c d k (after_happening tools w c d x h)
    (kept_far tools w c d k x far h) hs

-- ---- what the laws ask

-- the exchange isn't over
abbrev pub IsUnderWay : Far → Type 0
IsUnderWay Done = ⊥
IsUnderWay _ = ⊤

-- the centre has sent what the device lacks
abbrev pub IsAnswered : Far → Type 0
IsAnswered Offering = ⊤
IsAnswered Proved = ⊤
IsAnswered _ = ⊥

-- The frame of this number is the device's. The device had a counter for it, and nothing prevents the centre's
-- answer.
pub record ComesToCentre (tools : Tools) (w : Schedule) (x : Front) (c d : ℕ) (k : Keys) (far : Far) (frame : ℕ)
    (sealed : NodeState) : Type 0 where
  pub on_air : frame_at x.lines frame ≡ Some (asked_bytes far tools w c d (device_seals far sealed k))
  pub sent : Sends far sealed
  pub free : CentreTakes far tools w x c d k (device_seals far sealed k)

-- The frame of this number is the centre's. The centre had counters for it, and nothing prevents the device's answer.
pub record ComesToDevice (tools : Tools) (w : Schedule) (x : Front) (c d : ℕ) (k : Keys) (far : Far) (frame : ℕ)
    (sealed : NodeState) : Type 0 where
  pub answered : IsAnswered far
  pub on_air : frame_at x.lines frame ≡ Some (told_bytes far tools w c d k (centre_seals far sealed k))
  pub sent : why_not_sealed sealed ≡ None
  pub free : DeviceTakes far w x c d k (centre_seals far sealed k)

-- No node answers: the node of the event has no power; or the event resets, boots or dumps a node, or arms its disk;
-- or it is an event of the outside.
abbrev pub IsUnanswered : Front → Event → Type 0
IsUnanswered x (Own n task) = is_up x.lines n ≡ false
IsUnanswered x (RollOver n) = is_up x.lines n ≡ false
IsUnanswered x (Deliver frame n) = is_up x.lines n ≡ false
IsUnanswered x _ = ⊤

abbrev pub IsInOrder : Tools → Schedule → Front → ℕ → ℕ → Keys → Far → Happening → Type 0
IsInOrder tools w x c d k far Timer = IsUnderWay far
IsInOrder tools w x c d k far (Hearing frame sealed) = ComesToCentre tools w x c d k far frame sealed
IsInOrder tools w x c d k far (Taking frame sealed) = ComesToDevice tools w x c d k far frame sealed
IsInOrder tools w x c d k far (Repelling frame node) = IsRefused tools w x c d frame node
IsInOrder tools w x c d k far (Idle event) = ((is_of c event ≡ false) × (is_of d event ≡ false)) ⊎ IsUnanswered x event

-- each at the front that is reached then
abbrev pub AreInOrder : Tools → Schedule → ℕ → ℕ → Keys → Front → Far → List Happening → Type 0
AreInOrder tools w c d k x far [] = ⊤
AreInOrder tools w c d k x far (h ∷ hs) = IsInOrder tools w x c d k far h
    × AreInOrder tools w c d k (after_happening tools w c d x h) (kept_far tools w c d k x far h) hs
