-- A device joins through a router, as events that follow the front of a run.
use Rattle.std.specs.Prelude.{ℕ, ◌≡◌, ◌+◌, false, List, [], ◌∷◌, ◌++◌, length, nat_eq, None}
use Rattle.zb_model.specs.Data.{Aps, Bytes, HasChild}
use Rattle.zb_model.specs.Play.{Schedule, Event, Own, Deliver, setting_of}
use Rattle.zb_model.specs.Readings.{air, state_of}
use Rattle.zb_model.specs.State.{LinkKey, next_counter}
use Rattle.zb_model.specs.Tools.{Tools}
use Rattle.law_recovery.specs.Exchanging.{seals_now}
use Rattle.law_recovery.specs.Meeting.{HasLink, HasNetwork}
use Rattle.law_recovery.specs.Knowing.{MeetsKey}
use Rattle.law_recovery.specs.Joining.{AreIntroduced}
use Rattle.law_recovery.specs.Rejoining.{why_not_taken}
use Rattle.law_recovery.specs.Fronts.{Front, after_events}
use Rattle.law_recovery.specs.KeyExchange.{AreMet, KeysInRange, eui_of, exchange_events}
use Rattle.law_recovery.specs.Relaying.{AreRouted, IsRouting, why_no_report, why_no_tunnel, why_not_relayed}

-- The four events: the router reports its child, and its report is delivered to the centre; the centre's Tunnel is
-- delivered to the router, and the router's frame to the device. Each frame is the next on the air.
abbrev pub routed_events : Front → ℕ → ℕ → ℕ → List Event
routed_events x c r d =
    Own r (HasChild d false) ∷ Deliver (length (air x.lines) + 1) c ∷ Deliver (length (air x.lines) + 2) r
    ∷ Deliver (length (air x.lines) + 3) d ∷ []

abbrev pub routed_front : Tools → Schedule → Front → ℕ → ℕ → ℕ → Front
routed_front tools w x c r d = after_events tools w x (routed_events x c r d)

-- then the exchange of link keys, to the confirmation
abbrev pub routed_joining_events : Tools → Schedule → Front → ℕ → ℕ → ℕ → List Event
routed_joining_events tools w x c r d =
    routed_events x c r d ++ exchange_events (routed_front tools w x c r d) c d

-- A centre c, a router r that is a member, and a device d that knocked, all three ready. The device has the key of
-- its code, and the centre has entered it. The centre's network key is new to the device, or the device knows it.
pub record MayJoinThrough (w : Schedule) (x : Front) (c r d : ℕ) (router_link : Bytes) : Type 0 where
  pub device_met : AreMet w x c d
  pub router_met : AreMet w x c r
  pub apart : nat_eq r d ≡ false
  pub device_named : eui_of w d ≡ d
  pub routed : AreRouted (setting_of w c) (setting_of w r) (setting_of w d)
  pub introduced : AreIntroduced (setting_of w c) (setting_of w d) (state_of x.lines c) (state_of x.lines d)
  pub none_offered : HasLink (state_of x.lines c) (eui_of w d) introduced.row.key
  pub network : HasNetwork (state_of x.lines c) introduced.net.key introduced.net.sequence
  pub router : IsRouting (state_of x.lines r) (eui_of w c) introduced.net.key introduced.net.sequence router_link
  pub router_keys : HasLink (state_of x.lines c) (eui_of w r) router_link
  pub in_range : KeysInRange introduced.net.key introduced.net.sequence introduced.row.key
  pub router_size : length router_link ≡ 16
  pub meets : MeetsKey (state_of x.lines d) introduced.net.key introduced.net.sequence

-- Nothing prevents the four events, with this network key of the centre and this link key of the device. All
-- obstacles are stated for the first front.
pub record RouteIsFree (w : Schedule) (x : Front) (c r d : ℕ) (router_link key : Bytes)
    (sequence : ℕ) (own : LinkKey) : Type 0 where
  pub report : why_no_report (state_of x.lines r) ≡ None
  pub tunnel : why_no_tunnel (state_of x.lines c) (eui_of w r) (eui_of w d)
      (seals_now (state_of x.lines r) key sequence router_link) ≡ None
  pub relayed : why_not_relayed (state_of x.lines r) (eui_of w c)
      (seals_now (state_of x.lines c) key sequence router_link) ≡ None
  pub taken : why_not_taken (state_of x.lines d) own (next_counter Aps (state_of x.lines c)) key ≡ None
