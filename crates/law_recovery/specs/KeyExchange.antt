-- A device that has joined gets a link key of its own, as events that follow the front of a run.
use Rattle.std.specs.Prelude.{ℕ, ◌≡◌, ◌+◌, ◌<◌, ◌^◌, false, List, [], ◌∷◌, ◌++◌, length, take, Some, None, nat_eq}
use Rattle.zb_model.specs.Data.{Bytes, DoTimer}
use Rattle.zb_model.specs.Play.{Schedule, Event, Own, Deliver, setting_of, supply}
use Rattle.zb_model.specs.Readings.{air, state_of}
use Rattle.zb_model.specs.State.{has_link, has_net, offered}
use Rattle.zb_model.specs.Tools.{Tools}
use Rattle.law_recovery.specs.Exchanging.{StationsInRange, seals_now}
use Rattle.law_recovery.specs.Meeting.{AreDeclared, HasLink, HasNetwork, HasProved, IsConfirmed, IsJoined, IsSteady}
use Rattle.law_recovery.specs.Obstacles.{why_no_confirmation, why_no_offer, why_no_proof, why_no_request, why_not_confirmed, why_offer_not_kept}
use Rattle.law_recovery.specs.Fronts.{Front, IsReady, after_events}
use Rattle.law_recovery.specs.RunsJoining.{CanJoin, join_events}

-- The six events: the device's timer, and the delivery of its request; the delivery of the centre's offer; the
-- device's timer, and the delivery of its proof; the delivery of the centre's confirmation. Each frame is the next on
-- the air.
abbrev pub exchange_events : Front → ℕ → ℕ → List Event
exchange_events x c d =
    Own d DoTimer ∷ Deliver (length (air x.lines) + 1) c ∷ Deliver (length (air x.lines) + 2) d
    ∷ Own d DoTimer ∷ Deliver (length (air x.lines) + 3) c ∷ Deliver (length (air x.lines) + 4) d ∷ []

-- the front after that number of them
abbrev pub front_after : Tools → Schedule → Front → ℕ → ℕ → ℕ → Front
front_after tools w x c d events = after_events tools w x (take events (exchange_events x c d))

abbrev pub eui_of : Schedule → ℕ → ℕ
eui_of w n = (setting_of w n).me.eui

-- A centre c and a device d, both ready, in states that keep the rules.
pub record AreMet (w : Schedule) (x : Front) (c d : ℕ) : Type 0 where
  pub apart : nat_eq d c ≡ false
  pub declared : AreDeclared (setting_of w c) (setting_of w d)
  pub stations : StationsInRange (setting_of w c) (setting_of w d)
  pub centre_ready : IsReady x c
  pub device_ready : IsReady x d
  pub centre_steady : IsSteady (setting_of w c) (state_of x.lines c)
  pub device_steady : IsSteady (setting_of w d) (state_of x.lines d)

-- The device has joined. Both have this network key, with this sequence, and this link key, and no key is offered.
pub record HaveJoined (w : Schedule) (x : Front) (c d : ℕ) (key : Bytes) (sequence : ℕ) (link : Bytes) : Type 0 where
  pub device : IsJoined (state_of x.lines d) (eui_of w c) key sequence link
  pub network : HasNetwork (state_of x.lines c) key sequence
  pub keys : HasLink (state_of x.lines c) (eui_of w d) link

pub record KeysInRange (key : Bytes) (sequence : ℕ) (link : Bytes) : Type 0 where
  pub key_size : length key ≡ 16
  pub small : sequence < 2 ^ 8
  pub link_size : length link ≡ 16

-- Nothing prevents any of the six events, each in the states that are reached then. The centre draws the key.
pub record NothingStops (tools : Tools) (w : Schedule) (x : Front) (c d : ℕ) (key : Bytes) (sequence : ℕ)
    (link drawn : Bytes) : Type 0 where
  pub request : why_no_request (state_of x.lines d) ≡ None
  pub draw : supply w (front_after tools w x c d 1).lines ≡ Some drawn
  pub offer : why_no_offer (state_of (front_after tools w x c d 1).lines c) (eui_of w d)
      (seals_now (state_of x.lines d) key sequence link) (Some drawn) ≡ None
  pub fresh : has_link (eui_of w c) drawn (state_of (front_after tools w x c d 2).lines d).links ≡ false
  pub kept : why_offer_not_kept (state_of (front_after tools w x c d 2).lines d) (eui_of w c)
      (seals_now (state_of (front_after tools w x c d 1).lines c) key sequence link) drawn ≡ None
  pub proof : why_no_proof (state_of (front_after tools w x c d 3).lines d) ≡ None
  pub confirmation : why_no_confirmation (state_of (front_after tools w x c d 4).lines c) (eui_of w d)
      (seals_now (state_of (front_after tools w x c d 3).lines d) key sequence drawn) ≡ None
  pub confirmed : why_not_confirmed (state_of (front_after tools w x c d 5).lines d) (eui_of w c)
      (seals_now (state_of (front_after tools w x c d 4).lines c) key sequence drawn) ≡ None

-- The device is confirmed with this link key, which both have verified. Both have the network key active, and are
-- ready.
pub record EndsConfirmed (w : Schedule) (x : Front) (c d : ℕ) (key : Bytes) (sequence : ℕ) (link : Bytes) : Type 0
  where
    pub device : IsConfirmed (state_of x.lines d) (eui_of w c) key sequence link
    pub network : HasNetwork (state_of x.lines c) key sequence
    pub keys : HasProved (state_of x.lines c) (eui_of w d) link
    pub centre_ready : IsReady x c
    pub device_ready : IsReady x d

-- A device that knocked, to which the centre's network key is new. The centre finds that key by its sequence, and
-- offers the device no link key.
pub record IsNew (w : Schedule) (x : Front) (c d : ℕ) (can : CanJoin w x c d) : Type 0 where
  pub met : AreMet w x c d
  pub network : HasNetwork (state_of x.lines c) can.introduced.net.key can.introduced.net.sequence
  pub none_offered : offered (state_of x.lines c) (eui_of w d) ≡ None
  pub key_is_new : has_net can.introduced.net.key (state_of x.lines d).nets ≡ false

-- the front at which this device has joined, and the eight events after the knock
abbrev pub joined_front : Tools → Schedule → Front → ℕ → ℕ → Front
joined_front tools w x c d = after_events tools w x (join_events x c d)

abbrev pub joining_events : Tools → Schedule → Front → ℕ → ℕ → List Event
joining_events tools w x c d = join_events x c d ++ exchange_events (joined_front tools w x c d) c d
