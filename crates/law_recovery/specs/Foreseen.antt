-- The obstacles of the exchange of link keys, all stated for the first front.
use Rattle.std.specs.Prelude.{ℕ, ◌≡◌, ◌<◌, ◌+◌, false, Some, None}
use Rattle.zb_model.specs.Data.{Bytes, Nwk, Aps}
use Rattle.zb_model.specs.Play.{Schedule, supply}
use Rattle.zb_model.specs.Readings.{state_of}
use Rattle.zb_model.specs.State.{greatest_counter, has_link, next_counter}
use Rattle.law_recovery.specs.Exchanging.{seals_now}
use Rattle.law_recovery.specs.Obstacles.{why_no_offer, why_no_request, why_offer_not_kept}
use Rattle.law_recovery.specs.Fronts.{Front}
use Rattle.law_recovery.specs.KeyExchange.{eui_of}

-- Nothing prevents the first three events, with the seals that the two nodes would use now. Each node has a counter
-- left for what it seals after that: the device one at NWK for its proof, the centre one at each layer for its
-- confirmation.
pub record IsForeseen (w : Schedule) (x : Front) (c d : ℕ) (key : Bytes) (sequence : ℕ) (link drawn : Bytes) : Type 0
  where
    pub request : why_no_request (state_of x.lines d) ≡ None
    pub draw : supply w x.lines ≡ Some drawn
    pub offer : why_no_offer (state_of x.lines c) (eui_of w d) (seals_now (state_of x.lines d) key sequence link)
        (Some drawn) ≡ None
    pub fresh : has_link (eui_of w c) drawn (state_of x.lines d).links ≡ false
    pub kept : why_offer_not_kept (state_of x.lines d) (eui_of w c)
        (seals_now (state_of x.lines c) key sequence link) drawn ≡ None
    pub device_nwk : next_counter Nwk (state_of x.lines d) + 1 < greatest_counter
    pub centre_nwk : next_counter Nwk (state_of x.lines c) + 1 < greatest_counter
    pub centre_aps : next_counter Aps (state_of x.lines c) + 1 < greatest_counter
