-- What the two nodes have at each stage of an exchange, and the obstacles of a turn.
use Rattle.std.specs.Prelude.{ℕ, ◌≡◌, ◌+◌, ◌⊎◌, false, List, [], ◌∷◌, length, Some, None, ⊤}
use Rattle.zb_model.specs.Answer.{answer}
use Rattle.zb_model.specs.Data.{Bytes, Reason, DoTimer, Received}
use Rattle.zb_model.specs.Play.{Schedule, Own, Deliver, frame_at, setting_of, supply}
use Rattle.zb_model.specs.Readings.{air, state_of}
use Rattle.zb_model.specs.State.{NodeState, has_link}
use Rattle.zb_model.specs.Tools.{Tools}
use Rattle.law_recovery.specs.Exchanging.{Seals, StaysClosed, confirmation_bytes, offer_bytes, proof_bytes, request_bytes, seals_now}
use Rattle.law_recovery.specs.Meeting.{HasBoth, HasLink, HasNetwork, HasOffer, HasProved, IsConfirmed, IsJoined, IsOffered}
use Rattle.law_recovery.specs.Obstacles.{why_no_confirmation, why_no_offer, why_no_offer_again, why_no_proof, why_no_request, why_not_confirmed, why_offer_not_kept}
use Rattle.law_recovery.specs.Fronts.{Front, after_event}
use Rattle.law_recovery.specs.KeyExchange.{AreMet, eui_of}
use Rattle.law_run_steps.specs.Steps.{is_of}
use Rattle.law_recovery.specs.Turns.{Far, Asking, Offering, Proving, Proved, Done, Turn, Unheard, Unanswered, Answered, Refused, Elsewhere, after_turn, far_after}

-- The keys of an exchange: the network key with its sequence, the link key that both have, and the drawn key.
pub record Keys : Type 0 where
  pub network : Bytes
  pub sequence : ℕ
  pub link : Bytes
  pub drawn : Bytes

-- ---- the stages

abbrev pub DeviceIs : Far → NodeState → ℕ → Keys → Type 0
DeviceIs Asking t centre k = IsJoined t centre k.network k.sequence k.link
DeviceIs Offering t centre k = IsJoined t centre k.network k.sequence k.link
DeviceIs Proving t centre k = IsOffered t centre k.network k.sequence k.drawn
DeviceIs Proved t centre k = IsOffered t centre k.network k.sequence k.drawn
DeviceIs Done t centre k = IsConfirmed t centre k.network k.sequence k.drawn

abbrev pub CentreHas : Far → NodeState → ℕ → Keys → Type 0
CentreHas Asking s device k = HasLink s device k.link
CentreHas Offering s device k = HasBoth s device k.link k.drawn
CentreHas Proving s device k = HasOffer s device k.drawn
CentreHas Proved s device k = HasProved s device k.drawn
CentreHas Done s device k = HasProved s device k.drawn

-- A centre c and a device d, both ready, are at this stage with these keys.
pub record HaveCome (w : Schedule) (x : Front) (c d : ℕ) (k : Keys) (far : Far) : Type 0 where
  pub met : AreMet w x c d
  pub network : HasNetwork (state_of x.lines c) k.network k.sequence
  pub device : DeviceIs far (state_of x.lines d) (eui_of w c) k
  pub centre : CentreHas far (state_of x.lines c) (eui_of w d) k

-- ---- the obstacles

-- the device's seals now: of a request under the link key, or of a proof of the drawn key
abbrev pub device_seals : Far → NodeState → Keys → Seals
device_seals Asking t k = seals_now t k.network k.sequence k.link
device_seals Offering t k = seals_now t k.network k.sequence k.link
device_seals _ t k = seals_now t k.network k.sequence k.drawn

-- and the centre's: of an offer under the link key, or of a confirmation under the drawn key
abbrev pub centre_seals : Far → NodeState → Keys → Seals
centre_seals far s k = device_seals far s k

-- the device's frame with these seals, and the centre's
abbrev pub asked_bytes : Far → Tools → Schedule → ℕ → ℕ → Seals → Bytes
asked_bytes Asking tools w c d f = request_bytes tools (setting_of w c) (setting_of w d) f
asked_bytes Offering tools w c d f = request_bytes tools (setting_of w c) (setting_of w d) f
asked_bytes _ tools w c d f = proof_bytes tools (setting_of w c) (setting_of w d) f

abbrev pub told_bytes : Far → Tools → Schedule → ℕ → ℕ → Keys → Seals → Bytes
told_bytes Asking tools w c d k f = offer_bytes tools (setting_of w c) (setting_of w d) f k.drawn
told_bytes Offering tools w c d k f = offer_bytes tools (setting_of w c) (setting_of w d) f k.drawn
told_bytes _ tools w c d k f = confirmation_bytes tools (setting_of w c) (setting_of w d) f

-- the exchange is over
abbrev pub IsOver : Type 0
IsOver = ◌≡◌ {A = ℕ} 0 1

-- The device sends its frame.
abbrev pub Sends : Far → NodeState → Type 0
Sends Asking t = why_no_request t ≡ None
Sends Offering t = why_no_request t ≡ None
Sends Proving t = why_no_proof t ≡ None
Sends Proved t = why_no_proof t ≡ None
Sends Done t = IsOver

-- The centre accepts it, with the next key of the supply. A repeated request doesn't open under the offered key.
abbrev pub CentreTakes : Far → Tools → Schedule → Front → ℕ → ℕ → Keys → Seals → Type 0
CentreTakes Asking tools w y c d k f = (supply w y.lines ≡ Some k.drawn)
    × (why_no_offer (state_of y.lines c) (eui_of w d) f (Some k.drawn) ≡ None)
CentreTakes Offering tools w y c d k f = StaysClosed tools (setting_of w d) f k.drawn
    × (why_no_offer_again (state_of y.lines c) (eui_of w d) f ≡ None)
CentreTakes Proving tools w y c d k f = why_no_confirmation (state_of y.lines c) (eui_of w d) f ≡ None
CentreTakes Proved tools w y c d k f = why_no_confirmation (state_of y.lines c) (eui_of w d) f ≡ None
CentreTakes Done tools w y c d k f = IsOver

abbrev pub TakesOffer : Schedule → Front → ℕ → ℕ → Keys → Seals → Type 0
TakesOffer w z c d k f = (has_link (eui_of w c) k.drawn (state_of z.lines d).links ≡ false)
    × (why_offer_not_kept (state_of z.lines d) (eui_of w c) f k.drawn ≡ None)

abbrev pub TakesConfirmation : Schedule → Front → ℕ → ℕ → Seals → Type 0
TakesConfirmation w z c d f = why_not_confirmed (state_of z.lines d) (eui_of w c) f ≡ None

-- The device accepts the centre's frame.
abbrev pub DeviceTakes : Far → Schedule → Front → ℕ → ℕ → Keys → Seals → Type 0
DeviceTakes Asking w z c d k f = TakesOffer w z c d k f
DeviceTakes Offering w z c d k f = TakesOffer w z c d k f
DeviceTakes Proving w z c d k f = TakesConfirmation w z c d f
DeviceTakes Proved w z c d k f = TakesConfirmation w z c d f
DeviceTakes Done w z c d k f = IsOver

-- the fronts after the device's timer, and after the delivery of its frame
abbrev pub timed : Tools → Schedule → Front → ℕ → Front
timed tools w x d = after_event tools w x (Own d DoTimer)

abbrev pub heard : Tools → Schedule → Front → ℕ → ℕ → Front
heard tools w x c d = after_event tools w (timed tools w x d) (Deliver (length (air x.lines) + 1) c)

abbrev pub FreeToCentre : Tools → Schedule → Front → ℕ → ℕ → Keys → Far → Type 0
FreeToCentre tools w x c d k far = Sends far (state_of x.lines d)
    × CentreTakes far tools w (timed tools w x d) c d k (device_seals far (state_of x.lines d) k)

-- A frame is on the air, and one of the two refuses it.
pub record IsRefused (tools : Tools) (w : Schedule) (x : Front) (c d frame node : ℕ) : Type 0 where
  pub one : (node ≡ c) ⊎ (node ≡ d)
  pub bytes : Bytes
  pub on_air : frame_at x.lines frame ≡ Some bytes
  pub reason : Reason
  pub refused : (answer tools (setting_of w node) (state_of x.lines node) (Received bytes (supply w x.lines))).refusal
      ≡ Some reason

-- Nothing prevents a turn.
abbrev pub IsFree : Tools → Schedule → Front → ℕ → ℕ → Keys → Far → Turn → Type 0
IsFree tools w x c d k far Unheard = Sends far (state_of x.lines d)
IsFree tools w x c d k far Unanswered = FreeToCentre tools w x c d k far
IsFree tools w x c d k far Answered = FreeToCentre tools w x c d k far
    × DeviceTakes far w (heard tools w x c d) c d k (centre_seals far (state_of (timed tools w x d).lines c) k)
IsFree tools w x c d k far (Refused frame node) = IsRefused tools w x c d frame node
IsFree tools w x c d k far (Elsewhere event) = (is_of c event ≡ false) × (is_of d event ≡ false)

-- nor several turns, each at the front that is reached then
abbrev pub AreFree : Tools → Schedule → ℕ → ℕ → Keys → Front → Far → List Turn → Type 0
AreFree tools w c d k x far [] = ⊤
AreFree tools w c d k x far (turn ∷ turns) = IsFree tools w x c d k far turn
    × AreFree tools w c d k (after_turn tools w c d x turn) (far_after far turn) turns
