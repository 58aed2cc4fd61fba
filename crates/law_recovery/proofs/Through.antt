-- A device joins through a router in a run, event by event: what each leaves of the three nodes.
use Rattle.std.proofs.Common.{◌≡◌, ℕ, ◌+◌, ◌<◌, false, true, ◌++◌, length, Some, None, option_to_list, nat_eq, refl, sym, ap, ◌∙◌, subst, arith}
use Rattle.std.proofs.lemmas.Bool.{leb-false}
use Rattle.std.proofs.lemmas.List.Sums.{fold-append}
use Rattle.zb_model.specs.Answer.{answer}
use Rattle.zb_model.specs.Data.{Bytes, Nwk, Aps, CounterSpent, Task, HasChild, Received}
use Rattle.zb_model.specs.Play.{Schedule, Event, Own, Deliver, answer_step, setting_of, step, supply}
use Rattle.zb_model.specs.Readings.{air, state_of}
use Rattle.zb_model.specs.Fits.{keeps_rules}
use Rattle.zb_model.specs.Rules.{both_spent, in_rejoining, spent}
use Rattle.zb_model.specs.State.{LinkKey, NetKey, NodeState, active_row, current, greatest_counter, next_counter}
use Rattle.zb_model.specs.Tools.{Tools}
use Rattle.law_answer_storable.specs.Storing.{OpensAsJudged}
use Rattle.law_recovery.specs.CommandFrames.{DeliversCommands}
use Rattle.law_recovery.specs.Exchanging.{ApsInRange, NwkInRange, Seals, seals_now}
use Rattle.law_recovery.specs.Meeting.{HasLink, HasNetwork, IsJoined, IsSteady}
use Rattle.law_recovery.specs.Obstacles.{why_unheard}
use Rattle.law_recovery.proofs.Baring.{bare}
use Rattle.law_recovery.proofs.Judged.{when_none}
use Rattle.law_recovery.proofs.Keeping.{link_left, network_left, state_left}
use Rattle.law_recovery.proofs.Quiet.{quiet, unheard_left}
use Rattle.law_recovery.proofs.Sending.{apart_spent}
use Rattle.law_recovery.specs.Answering.{after_task, frame_of}
use Rattle.law_recovery.specs.Joining.{AreIntroduced}
use Rattle.law_recovery.specs.KeyFrames.{DeliversKeys, KeyFrameInRange, key_bytes}
use Rattle.law_recovery.specs.Rejoining.{answer_frame, why_not_taken}
use Rattle.law_run_steps.proofs.Others.{own-up, frame-up}
use Rattle.law_run_steps.specs.Steps.{is_of}
use Rattle.law_recovery.specs.Fronts.{Front, after_event, after_events}
use Rattle.law_recovery.specs.KeyExchange.{AreMet, EndsConfirmed, HaveJoined, NothingStops, eui_of, exchange_events}
use Rattle.law_recovery.proofs.Confirmed.{OnAir, centre_acts, device_acts, exchanged, sent_on_air}
use Rattle.law_recovery.proofs.Exchanged.{left-by, turned}
use Rattle.law_recovery.specs.Knowing.{MeetsKey}
use Rattle.law_recovery.specs.Relaying.{AreRouted, IsRouting, why_no_tunnel, why_not_relayed}
use Rattle.law_recovery.specs.Routed.{MayJoinThrough, RouteIsFree, routed_events, routed_front, routed_joining_events}
use Rattle.law_recovery.specs.RouterFrames.{DeliversRelays, relayed_frame, report_bytes, tunnel_bytes}
use Rattle.law_recovery.proofs.Passing.{key_taken, relay_sent}
use Rattle.law_recovery.proofs.Reporting.{report_bare, report_quiet, report_sent, tunnel_bare, tunnel_sent, unspent_of}

-- ---- one event of one of the three

record Three (w : Schedule) (x : Front) (c r d : ℕ) : Type 0 where
  device : AreMet w x c d
  router : AreMet w x c r
  apart : nat_eq r d ≡ false

-- two nodes that an event leaves as they are
left_met : (tools : Tools) (w : Schedule) (x : Front) (c n : ℕ) (event : Event) → AreMet w x c n → is_of c event
    ≡ false → is_of n event ≡ false → AreMet w (after_event tools w x event) c n
left_met tools w x c n event met first second =
    let a = left-by tools w x c event first in
    let b = left-by tools w x n event second in
    record {
      apart = met.apart;
      declared = met.declared;
      stations = met.stations;
      centre_ready = a.ready met.centre_ready;
      device_ready = b.ready met.device_ready;
      centre_steady = subst (IsSteady (setting_of w c)) (sym a.state) met.centre_steady;
      device_steady = subst (IsSteady (setting_of w n)) (sym b.state) met.device_steady;
    }

-- what an event of the router leaves
record RouterActs (tools : Tools) (w : Schedule) (x y : Front) (c r d : ℕ) (task : Task) : Type 0 where
  three : Three w y c r d
  router : state_of y.lines r ≡ after_task tools (setting_of w r) (state_of x.lines r) task
  centre : state_of y.lines c ≡ state_of x.lines c
  device : state_of y.lines d ≡ state_of x.lines d
  on_air : air y.lines ≡ air x.lines ++ option_to_list (frame_of tools (setting_of w r) (state_of x.lines r) task)

router_acts : (tools : Tools) → OpensAsJudged tools → (w : Schedule) (x : Front) (c r d : ℕ) (task : Task)
    (event : Event) → Three w x c r d → is_of c event ≡ false → is_of d event ≡ false
    → step tools w x.lines x.disks x.number event
    ≡ answer_step x.lines x.disks x.number r (answer tools (setting_of w r) (state_of x.lines r) task)
    → RouterActs tools w x (after_event tools w x event) c r d task
router_acts tools opens w x c r d task event three first second is =
    let a = device_acts tools opens w x c r task event three.router first is in
    let b = left-by tools w x d event second in
    record {
      three = record {
        device = left_met tools w x c d event three.device first second;
        router = a.met;
        apart = three.apart;
      };
      router = a.device;
      centre = a.centre;
      device = b.state;
      on_air = a.on_air;
    }

-- what an event of the centre leaves
record MiddleActs (tools : Tools) (w : Schedule) (x y : Front) (c r d : ℕ) (task : Task) : Type 0 where
  three : Three w y c r d
  centre : state_of y.lines c ≡ after_task tools (setting_of w c) (state_of x.lines c) task
  router : state_of y.lines r ≡ state_of x.lines r
  device : state_of y.lines d ≡ state_of x.lines d
  on_air : air y.lines ≡ air x.lines ++ option_to_list (frame_of tools (setting_of w c) (state_of x.lines c) task)

middle_acts : (tools : Tools) → OpensAsJudged tools → (w : Schedule) (x : Front) (c r d : ℕ) (task : Task)
    (event : Event) → Three w x c r d → is_of d event ≡ false → is_of r event ≡ false
    → step tools w x.lines x.disks x.number event
    ≡ answer_step x.lines x.disks x.number c (answer tools (setting_of w c) (state_of x.lines c) task)
    → MiddleActs tools w x (after_event tools w x event) c r d task
middle_acts tools opens w x c r d task event three first second is =
    let a = centre_acts tools opens w x c d task event three.device first is in
    let b = centre_acts tools opens w x c r task event three.router second is in
    record {
      three = record { device = a.met; router = b.met; apart = three.apart };
      centre = a.centre;
      router = b.device;
      device = a.device;
      on_air = a.on_air;
    }

-- ---- counters in their ranges

below : (s : NodeState) → both_spent s ≡ false → (next_counter Nwk s < greatest_counter)
    × (next_counter Aps s < greatest_counter)
unfolding spent
below s e =
    let z = apart_spent s e in
    (leb-false greatest_counter (next_counter Nwk s) z.0, leb-false greatest_counter (next_counter Aps s) z.1)

nwk_range : (s : NodeState) (key : Bytes) (sequence : ℕ) (link : Bytes) → length key ≡ 16 → sequence < 256
    → both_spent s ≡ false → NwkInRange (seals_now s key sequence link)
nwk_range s key sequence link size small e =
    record { key = size; sequence = small; counter = (below s e).0 }

aps_range : (s : NodeState) (key : Bytes) (sequence : ℕ) (link : Bytes) → length link ≡ 16 → both_spent s ≡ false
    → ApsInRange (seals_now s key sequence link)
aps_range s key sequence link size e = record { link = size; counter = (below s e).1 }

-- ---- the report

routing_left : (t u : NodeState) (centre : ℕ) (key : Bytes) (sequence : ℕ) (link : Bytes)
    → IsRouting t centre key sequence link → bare u ≡ bare t → IsRouting u centre key sequence link
routing_left t u centre key sequence link j e =
    record {
      network = network_left t u key sequence j.network e;
      keys = link_left t u centre link j.keys e;
      stays = ap in_rejoining (state_left t u e) ∙ j.stays;
    }

-- the report is on the air; the other two nodes are as they were
record Reported (tools : Tools) (w : Schedule) (y : Front) (c r d : ℕ) (k : Seals) (s t : NodeState) (frames : ℕ) :
    Type 0 where
  three : Three w y c r d
  router : IsRouting (state_of y.lines r) (eui_of w c) k.key k.sequence k.link
  centre : state_of y.lines c ≡ s
  device : state_of y.lines d ≡ t
  heard : OnAir y frames (report_bytes tools (setting_of w c) (setting_of w r) (setting_of w d) k)

reported : (tools : Tools) → OpensAsJudged tools → (w : Schedule) (x : Front) (c r d : ℕ) (rlink : Bytes)
    → (may : MayJoinThrough w x c r d rlink)
    → RouteIsFree w x c r d rlink may.introduced.net.key may.introduced.net.sequence may.introduced.own
    → Reported tools w (after_event tools w x (Own r (HasChild d false))) c r d
    (seals_now (state_of x.lines r) may.introduced.net.key may.introduced.net.sequence rlink) (state_of x.lines c)
    (state_of x.lines d) (length (air x.lines) + 1)
reported tools opens w x c r d rlink may free =
    let l = may.introduced in
    let t = state_of x.lines r in
    let k = seals_now t l.net.key l.net.sequence rlink in
    let three : Three w x c r d =
    record { device = may.device_met; router = may.router_met; apart = may.apart } in
    let child = HasChild d false in
    let y = after_event tools w x (Own r child) in
    let a = router_acts tools opens w x c r d child (Own r child) three may.router_met.apart may.apart
    (own-up tools w x.lines x.disks x.number r child may.router_met.device_ready.up) in
    let same : bare (after_task tools (setting_of w r) t child) ≡ bare t =
    subst (λ n. bare (after_task tools (setting_of w r) t (HasChild n false)) ≡ bare t) may.device_named
    (report_bare tools (setting_of w c) (setting_of w r) (setting_of w d) t l.net.key l.net.sequence rlink may.routed
    may.router) in
    let sent : frame_of tools (setting_of w r) t child
    ≡ Some (report_bytes tools (setting_of w c) (setting_of w r) (setting_of w d) k) =
    subst (λ n. frame_of tools (setting_of w r) t (HasChild n false)
    ≡ Some (report_bytes tools (setting_of w c) (setting_of w r) (setting_of w d) k)) may.device_named
    (report_sent tools (setting_of w c) (setting_of w r) (setting_of w d) t l.net.key l.net.sequence rlink may.routed
    may.router free.report) in
    record {
      three = a.three;
      router = subst (λ u. IsRouting u (eui_of w c) l.net.key l.net.sequence rlink) (sym a.router)
          (routing_left t (after_task tools (setting_of w r) t child) (eui_of w c) l.net.key l.net.sequence rlink
          may.router same);
      centre = a.centre;
      device = a.device;
      heard = sent_on_air x y (length (air x.lines))
          (report_bytes tools (setting_of w c) (setting_of w r) (setting_of w d) k)
          (frame_of tools (setting_of w r) t child) refl a.on_air sent;
    }

-- the router accepts after its report what it accepted before
still_hears : (tools : Tools) → OpensAsJudged tools → (w : Schedule) (x : Front) (c r d : ℕ) (rlink : Bytes)
    → MayJoinThrough w x c r d rlink → (source : ℕ) (k : Seals)
    → why_unheard (state_of (after_event tools w x (Own r (HasChild d false))).lines r) source k
    ≡ why_unheard (state_of x.lines r) source k
still_hears tools opens w x c r d rlink may source k =
    let l = may.introduced in
    let t = state_of x.lines r in
    let three : Three w x c r d =
    record { device = may.device_met; router = may.router_met; apart = may.apart } in
    let child = HasChild d false in
    let y = after_event tools w x (Own r child) in
    let a = router_acts tools opens w x c r d child (Own r child) three may.router_met.apart may.apart
    (own-up tools w x.lines x.disks x.number r child may.router_met.device_ready.up) in
    let same : quiet (after_task tools (setting_of w r) t child) ≡ quiet t =
    subst (λ n. quiet (after_task tools (setting_of w r) t (HasChild n false)) ≡ quiet t) may.device_named
    (report_quiet tools (setting_of w c) (setting_of w r) (setting_of w d) t l.net.key l.net.sequence rlink may.routed
    may.router) in
    unheard_left t (state_of y.lines r) source k (ap quiet a.router ∙ same)

-- ---- the Tunnel

-- what is known of the centre, in a state s, and of the device
record Central (w : Schedule) (c r d : ℕ) (s : NodeState) (k : Seals) (net : NetKey) (row : LinkKey) : Type 0 where
  routed : AreRouted (setting_of w c) (setting_of w r) (setting_of w d)
  active : active_row s ≡ Some net
  here : current s (eui_of w d) ≡ Some row
  network : HasNetwork s k.key k.sequence
  keys : HasLink s (eui_of w d) row.key
  router_keys : HasLink s (eui_of w r) k.link
  nwk : NwkInRange k
  aps : ApsInRange k
  free : why_no_tunnel s (eui_of w r) (eui_of w d) k ≡ None

-- the Tunnel is on the air; the centre has what it had
record Tunnels (tools : Tools) (w : Schedule) (y : Front) (c r d : ℕ) (k : Seals) (s t u : NodeState) (net : NetKey)
    (row : LinkKey) (frames : ℕ) : Type 0 where
  three : Three w y c r d
  router : state_of y.lines r ≡ u
  network : HasNetwork (state_of y.lines c) k.key k.sequence
  keys : HasLink (state_of y.lines c) (eui_of w d) row.key
  device : state_of y.lines d ≡ t
  heard : OnAir y frames
      (tunnel_bytes tools (setting_of w c) (setting_of w r) (seals_now s net.key net.sequence k.link)
      (answer_frame (setting_of w c) (setting_of w d) s net row))

tunnels : (tools : Tools) → DeliversRelays tools → OpensAsJudged tools → (w : Schedule) (x : Front) (c r d : ℕ)
    (k : Seals) (s t : NodeState) (net : NetKey) (row : LinkKey) (frames : ℕ) → Reported tools w x c r d k s t frames
    → Central w c r d s k net row
    → Tunnels tools w (after_event tools w x (Deliver frames c)) c r d k s t (state_of x.lines r) net row (frames + 1)
tunnels tools delivers opens w x c r d k s t net row frames a m =
    let bytes = report_bytes tools (setting_of w c) (setting_of w r) (setting_of w d) k in
    let task = Received bytes (supply w x.lines) in
    let met = a.three.device in
    let y = after_event tools w x (Deliver frames c) in
    let b = middle_acts tools opens w x c r d task (Deliver frames c) a.three (turned d c met.apart)
    (turned r c a.three.router.apart)
    (frame-up tools w x.lines x.disks x.number frames c bytes met.centre_ready.up a.heard.last) in
    let rules = subst (λ z. keeps_rules z ≡ true) a.centre met.centre_steady.rules in
    let same = tunnel_bare tools delivers (setting_of w c) (setting_of w r) (setting_of w d) s k net row
    (supply w x.lines) m.routed a.three.router.stations met.stations m.nwk m.aps rules m.active m.here m.network
    m.router_keys m.free in
    let sent = tunnel_sent tools delivers (setting_of w c) (setting_of w r) (setting_of w d) s k net row
    (supply w x.lines) m.routed a.three.router.stations met.stations m.nwk m.aps rules m.active m.here m.network
    m.router_keys m.free in
    let to : state_of y.lines c ≡ after_task tools (setting_of w c) s task =
    b.centre ∙ ap (λ z. after_task tools (setting_of w c) z task) a.centre in
    record {
      three = b.three;
      router = b.router;
      network = subst (λ z. HasNetwork z k.key k.sequence) (sym to)
          (network_left s (after_task tools (setting_of w c) s task) k.key k.sequence m.network same);
      keys = subst (λ z. HasLink z (eui_of w d) row.key) (sym to)
          (link_left s (after_task tools (setting_of w c) s task) (eui_of w d) row.key m.keys same);
      device = b.device ∙ a.device;
      heard = sent_on_air x y frames
          (tunnel_bytes tools (setting_of w c) (setting_of w r) (seals_now s net.key net.sequence k.link)
          (answer_frame (setting_of w c) (setting_of w d) s net row))
          (frame_of tools (setting_of w c) (state_of x.lines c) task) a.heard.count b.on_air
          (ap (λ z. frame_of tools (setting_of w c) z task) a.centre ∙ sent);
    }

-- ---- what the router relays

record Relays (tools : Tools) (w : Schedule) (y : Front) (c r d : ℕ) (k : Seals) (s t : NodeState) (net : NetKey)
    (row : LinkKey) (frames : ℕ) : Type 0 where
  three : Three w y c r d
  network : HasNetwork (state_of y.lines c) k.key k.sequence
  keys : HasLink (state_of y.lines c) (eui_of w d) row.key
  device : state_of y.lines d ≡ t
  heard : OnAir y frames
      (key_bytes tools (relayed_frame (setting_of w c) (setting_of w r) (setting_of w d) s net row))

relays : (tools : Tools) → DeliversRelays tools → OpensAsJudged tools → (w : Schedule) (x : Front) (c r d : ℕ)
    (k : Seals) (s t u : NodeState) (net : NetKey) (row : LinkKey) (frames : ℕ)
    → Tunnels tools w x c r d k s t u net row frames
    → AreRouted (setting_of w c) (setting_of w r) (setting_of w d)
    → NwkInRange (seals_now s net.key net.sequence k.link)
    → KeyFrameInRange (answer_frame (setting_of w c) (setting_of w d) s net row)
    → HasNetwork u net.key net.sequence
    → why_not_relayed u (eui_of w c) (seals_now s net.key net.sequence k.link) ≡ None
    → Relays tools w (after_event tools w x (Deliver frames r)) c r d k s t net row (frames + 1)
relays tools delivers opens w x c r d k s t u net row frames a routed rn range network none =
    let inner = answer_frame (setting_of w c) (setting_of w d) s net row in
    let k2 = seals_now s net.key net.sequence k.link in
    let bytes = tunnel_bytes tools (setting_of w c) (setting_of w r) k2 inner in
    let task = Received bytes (supply w x.lines) in
    let met = a.three.router in
    let y = after_event tools w x (Deliver frames r) in
    let b = router_acts tools opens w x c r d task (Deliver frames r) a.three met.apart a.three.apart
    (frame-up tools w x.lines x.disks x.number frames r bytes met.device_ready.up a.heard.last) in
    let sent = relay_sent tools delivers (setting_of w c) (setting_of w r) (setting_of w d) u s k2 net row
    (supply w x.lines) routed met.stations rn range network none in
    record {
      three = b.three;
      network = subst (λ z. HasNetwork z k.key k.sequence) (sym b.centre) a.network;
      keys = subst (λ z. HasLink z (eui_of w d) row.key) (sym b.centre) a.keys;
      device = b.device ∙ a.device;
      heard = sent_on_air x y frames
          (key_bytes tools (relayed_frame (setting_of w c) (setting_of w r) (setting_of w d) s net row))
          (frame_of tools (setting_of w r) (state_of x.lines r) task) a.heard.count b.on_air
          (ap (λ z. frame_of tools (setting_of w r) z task) a.router ∙ sent);
    }

-- ---- the device installs it

record Routed (w : Schedule) (z : Front) (c d : ℕ) (key : Bytes) (sequence : ℕ) (link : Bytes) : Type 0 where
  met : AreMet w z c d
  joined : HaveJoined w z c d key sequence link

takes : (tools : Tools) → DeliversKeys tools → OpensAsJudged tools → (w : Schedule) (x : Front) (c r d : ℕ)
    (k : Seals) (s t : NodeState)
    → (l : AreIntroduced (setting_of w c) (setting_of w d) s t) → (frames : ℕ)
    → Relays tools w x c r d k s t l.net l.row frames → AreRouted (setting_of w c) (setting_of w r) (setting_of w d)
    → KeyFrameInRange (answer_frame (setting_of w c) (setting_of w d) s l.net l.row)
    → l.net.key ≡ k.key → l.net.sequence ≡ k.sequence
    → why_not_taken t l.own (next_counter Aps s) l.net.key ≡ None → MeetsKey t l.net.key l.net.sequence
    → Routed w (after_event tools w x (Deliver frames d)) c d k.key k.sequence l.row.key
takes tools keys opens w x c r d k s t l frames a routed range same_key same_sequence none meets =
    let bytes = key_bytes tools (relayed_frame (setting_of w c) (setting_of w r) (setting_of w d) s l.net l.row) in
    let task = Received bytes (supply w x.lines) in
    let met = a.three.device in
    let b = device_acts tools opens w x c d task (Deliver frames d) met met.apart
    (frame-up tools w x.lines x.disks x.number frames d bytes met.device_ready.up a.heard.last) in
    let rules = subst (λ z. keeps_rules z ≡ true) a.device met.device_steady.rules in
    let u = after_task tools (setting_of w d) t task in
    let is : IsJoined u (eui_of w c) l.net.key l.net.sequence l.row.key =
    key_taken tools keys (setting_of w c) (setting_of w r) (setting_of w d) s t routed a.three.router.stations l range
    rules (supply w x.lines) none meets in
    record {
      met = b.met;
      joined = record {
        device = subst (λ z. IsJoined z (eui_of w c) k.key k.sequence l.row.key)
            (sym (b.device ∙ ap (λ z. after_task tools (setting_of w d) z task) a.device))
            (subst (λ n. IsJoined u (eui_of w c) k.key n l.row.key) same_sequence
            (subst (λ y. IsJoined u (eui_of w c) y l.net.sequence l.row.key) same_key is));
        network = subst (λ z. HasNetwork z k.key k.sequence) (sym b.centre) a.network;
        keys = subst (λ z. HasLink z (eui_of w d) l.row.key) (sym b.centre) a.keys;
      };
    }

-- ---- all of it

key_range : (w : Schedule) (x : Front) (c r d : ℕ) (rlink : Bytes) → (may : MayJoinThrough w x c r d rlink)
    → both_spent (state_of x.lines c) ≡ false
    → KeyFrameInRange
    (answer_frame (setting_of w c) (setting_of w d) (state_of x.lines c) may.introduced.net may.introduced.row)
key_range w x c r d rlink may unspent =
    let stations = may.device_met.stations in
    record {
      key = may.in_range.key_size;
      sequence = may.in_range.small;
      device = stations.device;
      centre = stations.centre;
      to = stations.device_short;
      from = stations.centre_short;
      link = may.in_range.link_size;
      counter = (below (state_of x.lines c) unspent).1;
    }

routed : (tools : Tools) → DeliversKeys tools → DeliversRelays tools → OpensAsJudged tools
    → (w : Schedule) (x : Front) (c r d : ℕ) (rlink : Bytes) → (may : MayJoinThrough w x c r d rlink)
    → RouteIsFree w x c r d rlink may.introduced.net.key may.introduced.net.sequence may.introduced.own
    → Routed w (routed_front tools w x c r d) c d may.introduced.net.key may.introduced.net.sequence
    may.introduced.row.key
routed tools keys delivers opens w x c r d rlink may free =
    let l = may.introduced in
    let s = state_of x.lines c in
    let t = state_of x.lines d in
    let q = state_of x.lines r in
    let frames = length (air x.lines) in
    let k = seals_now q l.net.key l.net.sequence rlink in
    let y1 = after_event tools w x (Own r (HasChild d false)) in
    let y2 = after_event tools w y1 (Deliver (frames + 1) c) in
    let y3 = after_event tools w y2 (Deliver (frames + 2) r) in
    let unspent_r = when_none (both_spent q) CounterSpent free.report in
    let rn = nwk_range q l.net.key l.net.sequence rlink may.in_range.key_size may.in_range.small unspent_r in
    let unspent_c = unspent_of s (eui_of w r) (eui_of w d) k may.network may.router_keys free.tunnel in
    let range = key_range w x c r d rlink may unspent_c in
    let a : Reported tools w y1 c r d k s t (frames + 1) = reported tools opens w x c r d rlink may free in
    let m : Central w c r d s k l.net l.row = record {
      routed = may.routed;
      active = l.active_key;
      here = l.at_centre;
      network = may.network;
      keys = may.none_offered;
      router_keys = may.router_keys;
      nwk = rn;
      aps = aps_range q l.net.key l.net.sequence rlink may.router_size unspent_r;
      free = free.tunnel;
    } in
    let second : frames + 1 + 1 ≡ frames + 2 = omega arith in
    let third : frames + 2 + 1 ≡ frames + 3 = omega arith in
    let b : Tunnels tools w y2 c r d k s t (state_of y1.lines r) l.net l.row (frames + 2) =
    subst (Tunnels tools w y2 c r d k s t (state_of y1.lines r) l.net l.row) second
    (tunnels tools delivers opens w y1 c r d k s t l.net l.row (frames + 1) a m) in
    let e : Relays tools w y3 c r d k s t l.net l.row (frames + 3) =
    subst (Relays tools w y3 c r d k s t l.net l.row) third
    (relays tools delivers opens w y2 c r d k s t (state_of y1.lines r) l.net l.row (frames + 2) b may.routed
    (nwk_range s l.net.key l.net.sequence rlink may.in_range.key_size may.in_range.small unspent_c) range
    a.router.network
    (still_hears tools opens w x c r d rlink may (eui_of w c) (seals_now s l.net.key l.net.sequence rlink)
    ∙ free.relayed)) in
    takes tools keys opens w y3 c r d k s t l (frames + 3) e may.routed range refl refl free.taken may.meets

pub routed_and_exchanged : (tools : Tools) → DeliversKeys tools → DeliversRelays tools → DeliversCommands tools
    → OpensAsJudged tools → (w : Schedule) (x : Front) (c r d : ℕ) (rlink drawn : Bytes)
    → (may : MayJoinThrough w x c r d rlink)
    → RouteIsFree w x c r d rlink may.introduced.net.key may.introduced.net.sequence may.introduced.own
    → length drawn ≡ 16
    → NothingStops tools w (routed_front tools w x c r d) c d may.introduced.net.key may.introduced.net.sequence
    may.introduced.row.key drawn
    → EndsConfirmed w (after_events tools w x (routed_joining_events tools w x c r d)) c d may.introduced.net.key
    may.introduced.net.sequence drawn
routed_and_exchanged tools keys delivers commands opens w x c r d rlink drawn may free long n =
    let l = may.introduced in
    let z = routed_front tools w x c r d in
    let i = routed tools keys delivers opens w x c r d rlink may free in
    subst (λ v. EndsConfirmed w v c d l.net.key l.net.sequence drawn)
    (sym (fold-append (after_event tools w) x (routed_events x c r d) (exchange_events z c d)))
    (exchanged tools commands opens w z c d l.net.key l.net.sequence l.row.key drawn i.met i.joined may.in_range long
    n)
