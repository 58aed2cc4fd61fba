-- Turns of an exchange of link keys whose frames the centre or the device refuses as stale. This happens for example
-- after its boot, which leaves its floors above what it accepted.
use Rattle.std.specs.Prelude.{ℕ, zero, suc, ◌≡◌, ◌+◌, false, length, Some, ⊤}
use Rattle.zb_model.specs.Answer.{answer}
use Rattle.zb_model.specs.Data.{Bytes, Nwk, Aps, Received, Stale}
use Rattle.zb_model.specs.Play.{Schedule, Deliver, setting_of, supply}
use Rattle.zb_model.specs.Readings.{air, state_of}
use Rattle.zb_model.specs.State.{has_link}
use Rattle.zb_model.specs.Tools.{Tools}
use Rattle.law_recovery.specs.Exchanging.{Seals, StaysClosed}
use Rattle.law_recovery.specs.Fronts.{Front, after_event}
use Rattle.law_recovery.specs.KeyExchange.{eui_of}
use Rattle.law_recovery.specs.Rounds.{CameFrom}
use Rattle.law_recovery.specs.Stages.{Keys, FreeToCentre, Sends, asked_bytes, centre_seals, device_seals, heard, timed, told_bytes}
use Rattle.law_recovery.specs.Turns.{Far, Asking, Offering, unanswered_from}

-- a repeated request doesn't open under the offered key
abbrev pub IsClosed : Far → Tools → Schedule → ℕ → Keys → Seals → Type 0
IsClosed Offering tools w d k f = StaysClosed tools (setting_of w d) f k.drawn
IsClosed _ tools w d k f = ⊤

-- The device's timer runs, and its frame is delivered to the centre, which refuses it as stale.
pub record IsStale (tools : Tools) (w : Schedule) (x : Front) (c d : ℕ) (k : Keys) (far : Far) : Type 0 where
  pub sends : Sends far (state_of x.lines d)
  pub closed : IsClosed far tools w d k (device_seals far (state_of x.lines d) k)
  pub floor : ℕ
  pub refused : (answer tools (setting_of w c) (state_of (timed tools w x d).lines c)
      (Received (asked_bytes far tools w c d (device_seals far (state_of x.lines d) k))
      (supply w (timed tools w x d).lines))).refusal ≡ Some (Stale floor)

-- that many of them, one after the other
abbrev pub AreStale : Tools → Schedule → ℕ → ℕ → Keys → Far → ℕ → Front → Type 0
AreStale tools w c d k far zero x = ⊤
AreStale tools w c d k far (suc n) x = IsStale tools w x c d k far
    × AreStale tools w c d k far n (heard tools w x c d)

abbrev pub after_stale : Tools → Schedule → ℕ → ℕ → ℕ → Front → Front
after_stale tools w c d zero x = x
after_stale tools w c d (suc n) x = after_stale tools w c d n (heard tools w x c d)

-- What the centre accepted from the device came from it: under the network key, and under the link key of a request.
abbrev pub CameFromDevice : Far → Schedule → Front → ℕ → ℕ → Keys → Type 0
CameFromDevice Asking w x c d k = CameFrom Nwk w x d c k.network × CameFrom Aps w x d c k.link
CameFromDevice Offering w x c d k = CameFrom Nwk w x d c k.network × CameFrom Aps w x d c k.link
CameFromDevice _ w x c d k = CameFrom Nwk w x d c k.network

-- ---- at the device

-- the centre's answer is delivered to the device
abbrev pub told : Tools → Schedule → Front → ℕ → ℕ → Front
told tools w x c d = after_event tools w (heard tools w x c d) (Deliver (length (air x.lines) + 2) d)

-- the device has no row of a key that it is offered
abbrev pub IsUnknown : Far → Schedule → Front → ℕ → ℕ → Keys → Type 0
IsUnknown Asking w z c d k = has_link (eui_of w c) k.drawn (state_of z.lines d).links ≡ false
IsUnknown Offering w z c d k = has_link (eui_of w c) k.drawn (state_of z.lines d).links ≡ false
IsUnknown _ w z c d k = ⊤

-- The device's timer runs, the centre accepts its frame and answers, and the device refuses the answer as stale.
pub record IsAnswerStale (tools : Tools) (w : Schedule) (x : Front) (c d : ℕ) (k : Keys) (far : Far) : Type 0 where
  pub free : FreeToCentre tools w x c d k far
  pub unknown : IsUnknown far w (heard tools w x c d) c d k
  pub floor : ℕ
  pub refused : (answer tools (setting_of w d) (state_of (heard tools w x c d).lines d)
      (Received (told_bytes far tools w c d k (centre_seals far (state_of (timed tools w x d).lines c) k))
      (supply w (heard tools w x c d).lines))).refusal ≡ Some (Stale floor)

-- That many of them, one after the other. After the first one the centre repeats its answer.
abbrev pub AreAnswersStale : Tools → Schedule → ℕ → ℕ → Keys → Far → ℕ → Front → Type 0
AreAnswersStale tools w c d k far zero x = ⊤
AreAnswersStale tools w c d k far (suc n) x = IsAnswerStale tools w x c d k far
    × AreAnswersStale tools w c d k (unanswered_from far) n (told tools w x c d)

abbrev pub after_stale_answers : Tools → Schedule → ℕ → ℕ → ℕ → Front → Front
after_stale_answers tools w c d zero x = x
after_stale_answers tools w c d (suc n) x = after_stale_answers tools w c d n (told tools w x c d)

-- the link key of the centre's frame: of an offer, the one that both have; of a confirmation, the drawn one
abbrev pub answer_key : Far → Keys → Bytes
answer_key Asking k = k.link
answer_key Offering k = k.link
answer_key _ k = k.drawn

-- What the device accepted from the centre came from it: under the network key, and under the link key of its frame.
abbrev pub CameFromTheCentre : Far → Schedule → Front → ℕ → ℕ → Keys → Type 0
CameFromTheCentre far w x c d k = CameFrom Nwk w x c d k.network × CameFrom Aps w x c d (answer_key far k)
