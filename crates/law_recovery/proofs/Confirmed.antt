-- The exchange of link keys, event by event: what each leaves of the two nodes, and the frame that it puts on the air.
use Rattle.std.proofs.Common.{◌≡◌, ℕ, ◌+◌, ◌<◌, false, [], ◌∷◌, ◌++◌, length, Option, Some, None, option_to_list, refl, sym, ap, ◌∙◌, subst, arith, length-append}
use Rattle.std.specs.Prelude.{is_none}
use Rattle.std.proofs.lemmas.Bool.{leb-false}
use Rattle.std.proofs.lemmas.List.{append-nil}
use Rattle.std.proofs.lemmas.List.Sums.{fold-append}
use Rattle.zb_model.specs.Answer.{answer}
use Rattle.zb_model.specs.Data.{Bytes, Nwk, Aps, Task, DoTimer, HasChild, Received, CounterSpent, NoDraw, RowsFull}
use Rattle.zb_model.specs.Play.{Schedule, Event, Own, Deliver, setting_of, supply, step, frame_at, answer_step}
use Rattle.zb_model.specs.Readings.{air, state_of}
use Rattle.zb_model.specs.Rules.{spent, both_spent, links_full, unless_held}
use Rattle.zb_model.specs.State.{NodeState, current, greatest_counter, has_link, next_counter}
use Rattle.zb_model.specs.Tools.{Tools}
use Rattle.law_answer_storable.specs.Storing.{OpensAsJudged}
use Rattle.law_recovery.specs.CommandFrames.{DeliversCommands}
use Rattle.law_recovery.specs.Exchanging.{Seals, seals_now, request_bytes, offer_bytes, proof_bytes, confirmation_bytes, NwkInRange, ApsInRange}
use Rattle.law_recovery.specs.Meeting.{HasLink, HasNetwork, HasOffer, HasProved, IsConfirmed, IsJoined, IsOffered, IsSteady}
use Rattle.law_recovery.specs.Obstacles.{or_else, obstacle_if, in_row, why_unheard, why_not_opened, why_not_sealed, why_no_confirmation, why_no_offer, why_no_proof, why_no_request, why_not_confirmed, why_offer_not_kept}
use Rattle.law_recovery.proofs.Joining.{child_bare, is_joined}
use Rattle.law_recovery.proofs.Judged.{or_second, when_none}
use Rattle.law_recovery.proofs.Keeping.{link_left, network_left, one_of}
use Rattle.law_recovery.proofs.Laws as law
use Rattle.law_recovery.proofs.Proving.{proof_sent}
use Rattle.law_recovery.proofs.Requesting.{request_sent}
use Rattle.law_recovery.proofs.Sending.{apart_spent}
use Rattle.law_recovery.proofs.Steady.{steady_after}
use Rattle.law_recovery.specs.Answering.{after_task, frame_of}
use Rattle.law_recovery.specs.KeyFrames.{DeliversKeys, key_bytes}
use Rattle.law_recovery.specs.Rejoining.{answer_frame}
use Rattle.law_recovery.proofs.Asking.{sends_to}
use Rattle.law_recovery.proofs.Taking.{unspent_of}
use Rattle.law_run_steps.proofs.Others.{own-up, frame-up}
use Rattle.law_run_steps.specs.Steps.{is_of}
use Rattle.law_recovery.specs.Fronts.{Front, after_event, after_events}
use Rattle.law_recovery.specs.KeyExchange.{AreMet, EndsConfirmed, HaveJoined, IsNew, KeysInRange, NothingStops, eui_of, exchange_events, front_after, joined_front, joining_events}
use Rattle.law_recovery.specs.RunsJoining.{CanJoin, join_events}
use Rattle.law_recovery.proofs.Airs.{last-frame}
use Rattle.law_recovery.proofs.Exchanged.{answered-by, left-by, turned}

-- ---- one event of either node

-- what an event of the device leaves, and what one of the centre does
pub record DeviceActs (tools : Tools) (w : Schedule) (x y : Front) (c d : ℕ) (task : Task) : Type 0 where
  pub met : AreMet w y c d
  pub device : state_of y.lines d ≡ after_task tools (setting_of w d) (state_of x.lines d) task
  pub centre : state_of y.lines c ≡ state_of x.lines c
  pub on_air : air y.lines ≡ air x.lines ++ option_to_list (frame_of tools (setting_of w d) (state_of x.lines d) task)

pub record CentreActs (tools : Tools) (w : Schedule) (x y : Front) (c d : ℕ) (task : Task) : Type 0 where
  pub met : AreMet w y c d
  pub device : state_of y.lines d ≡ state_of x.lines d
  pub centre : state_of y.lines c ≡ after_task tools (setting_of w c) (state_of x.lines c) task
  pub on_air : air y.lines ≡ air x.lines ++ option_to_list (frame_of tools (setting_of w c) (state_of x.lines c) task)

pub device_acts : (tools : Tools) → OpensAsJudged tools → (w : Schedule) (x : Front) (c d : ℕ) (task : Task)
    (event : Event) → AreMet w x c d → is_of c event ≡ false
    → step tools w x.lines x.disks x.number event
    ≡ answer_step x.lines x.disks x.number d (answer tools (setting_of w d) (state_of x.lines d) task)
    → DeviceActs tools w x (after_event tools w x event) c d task
unfolding after_task
device_acts tools opens w x c d task event met other is =
    let a = answered-by tools w x d (answer tools (setting_of w d) (state_of x.lines d) task) event met.device_ready
    is in
    let l = left-by tools w x c event other in
    record {
      met = record {
        apart = met.apart;
        declared = met.declared;
        stations = met.stations;
        centre_ready = l.ready met.centre_ready;
        device_ready = a.ready;
        centre_steady = subst (IsSteady (setting_of w c)) (sym l.state) met.centre_steady;
        device_steady = subst (IsSteady (setting_of w d)) (sym a.state)
            (steady_after tools opens (setting_of w d) (state_of x.lines d) task met.declared.network.in_block
            met.device_steady);
      };
      device = a.state;
      centre = l.state;
      on_air = a.on_air;
    }

pub centre_acts : (tools : Tools) → OpensAsJudged tools → (w : Schedule) (x : Front) (c d : ℕ) (task : Task)
    (event : Event) → AreMet w x c d → is_of d event ≡ false
    → step tools w x.lines x.disks x.number event
    ≡ answer_step x.lines x.disks x.number c (answer tools (setting_of w c) (state_of x.lines c) task)
    → CentreActs tools w x (after_event tools w x event) c d task
unfolding after_task
centre_acts tools opens w x c d task event met other is =
    let a = answered-by tools w x c (answer tools (setting_of w c) (state_of x.lines c) task) event met.centre_ready
    is in
    let l = left-by tools w x d event other in
    record {
      met = record {
        apart = met.apart;
        declared = met.declared;
        stations = met.stations;
        centre_ready = a.ready;
        device_ready = l.ready met.device_ready;
        centre_steady = subst (IsSteady (setting_of w c)) (sym a.state)
            (steady_after tools opens (setting_of w c) (state_of x.lines c) task met.declared.centre_block
            met.centre_steady);
        device_steady = subst (IsSteady (setting_of w d)) (sym l.state) met.device_steady;
      };
      device = l.state;
      centre = a.state;
      on_air = a.on_air;
    }

-- that many frames are on the air, and the last of them is this one
pub record OnAir (x : Front) (frames : ℕ) (bytes : Bytes) : Type 0 where
  pub count : length (air x.lines) ≡ frames
  pub last : frame_at x.lines frames ≡ Some bytes

comes_on_air : (x y : Front) (frames : ℕ) (bytes : Bytes) → length (air x.lines) ≡ frames → air y.lines ≡ air x.lines
    ++ bytes ∷ [] → OnAir y (frames + 1) bytes
comes_on_air x y frames bytes count e = record {
  count = ap (length {A = Bytes}) e ∙ length-append (air x.lines) (bytes ∷ []) ∙ ap (λ n. n + 1) count;
  last = subst (λ n. frame_at y.lines (n + 1) ≡ Some bytes) count (last-frame y.lines (air x.lines) bytes e);
}

pub sent_on_air : (x y : Front) (frames : ℕ) (bytes : Bytes) (o : Option Bytes) → length (air x.lines) ≡ frames
    → air y.lines ≡ air x.lines ++ option_to_list o → o ≡ Some bytes → OnAir y (frames + 1) bytes
sent_on_air x y frames bytes o count e sent =
    comes_on_air x y frames bytes count (e ∙ ap (λ p. air x.lines ++ option_to_list p) sent)

-- ---- counters in their ranges

pub below_nwk : (s : NodeState) → spent Nwk s ≡ false → next_counter Nwk s < greatest_counter
unfolding spent
below_nwk s e = leb-false greatest_counter (next_counter Nwk s) e

pub below_aps : (s : NodeState) → spent Aps s ≡ false → next_counter Aps s < greatest_counter
unfolding spent
below_aps s e = leb-false greatest_counter (next_counter Aps s) e

pub nwk_range : (s : NodeState) (key : Bytes) (sequence : ℕ) (link : Bytes) → length key ≡ 16 → sequence < 256
    → spent Nwk s ≡ false → NwkInRange (seals_now s key sequence link)
nwk_range s key sequence link size small e = record { key = size; sequence = small; counter = below_nwk s e }

pub aps_range : (s : NodeState) (key : Bytes) (sequence : ℕ) (link : Bytes) → length link ≡ 16 → spent Aps s ≡ false
    → ApsInRange (seals_now s key sequence link)
aps_range s key sequence link size e = record { link = size; counter = below_aps s e }

pub sealed_free : (s : NodeState) → why_not_sealed s ≡ None → (spent Nwk s ≡ false) × (spent Aps s ≡ false)
sealed_free s e = apart_spent s (when_none (both_spent s) CounterSpent e)

pub offer_free : (s : NodeState) (device : ℕ) (k : Seals) (draw : Option Bytes) → why_no_offer s device k draw ≡ None
    → why_not_sealed s ≡ None
unfolding why_no_offer
offer_free s device k draw e =
    let first = why_unheard s device k in
    let second = in_row (current s device) (λ row. why_not_opened row k.aps) in
    let third = obstacle_if (links_full s) RowsFull in
    let fourth = obstacle_if (is_none (unless_held s draw)) NoDraw in
    let last = why_not_sealed s in
    let rest = or_else third (or_else fourth last) in
    or_second fourth last
    (or_second third (or_else fourth last) (or_second second rest (or_second first (or_else second rest) e)))

pub confirmation_free : (s : NodeState) (device : ℕ) (k : Seals) → why_no_confirmation s device k ≡ None
    → why_not_sealed s ≡ None
unfolding why_no_confirmation
confirmation_free s device k e = or_second (why_unheard s device k) (why_not_sealed s) e

-- ---- the request

record Asked (tools : Tools) (w : Schedule) (y : Front) (c d : ℕ) (k : Seals) (frames : ℕ) : Type 0 where
  met : AreMet w y c d
  joined : HaveJoined w y c d k.key k.sequence k.link
  heard : OnAir y frames (request_bytes tools (setting_of w c) (setting_of w d) k)

asked : (tools : Tools) → OpensAsJudged tools → (w : Schedule) (x : Front) (c d : ℕ) (key : Bytes) (sequence : ℕ)
    (link : Bytes) (frames : ℕ) → AreMet w x c d → HaveJoined w x c d key sequence link → length (air x.lines) ≡ frames
    → why_no_request (state_of x.lines d) ≡ None → Asked tools w (after_event tools w x (Own d DoTimer)) c d
    (seals_now (state_of x.lines d) key sequence link) (frames + 1)
asked tools opens w x c d key sequence link frames met j count none =
    let y = after_event tools w x (Own d DoTimer) in
    let t = state_of x.lines d in
    let a = device_acts tools opens w x c d DoTimer (Own d DoTimer) met met.apart
    (own-up tools w x.lines x.disks x.number d DoTimer met.device_ready.up) in
    record {
      met = a.met;
      joined = record {
        device = subst (λ s. IsJoined s (eui_of w c) key sequence link) (sym a.device)
            (law.asks_again tools (setting_of w c) (setting_of w d) t key sequence link met.declared j.device);
        network = subst (λ s. HasNetwork s key sequence) (sym a.centre) j.network;
        keys = subst (λ s. HasLink s (eui_of w d) link) (sym a.centre) j.keys;
      };
      heard =
          sent_on_air x y frames
          (request_bytes tools (setting_of w c) (setting_of w d) (seals_now t key sequence link))
          (frame_of tools (setting_of w d) t DoTimer) count a.on_air
          (request_sent tools (setting_of w c) (setting_of w d) t key sequence link met.declared j.device none);
    }

-- ---- the offer

record Offered (tools : Tools) (w : Schedule) (y : Front) (c d : ℕ) (k : Seals) (drawn : Bytes) (frames : ℕ) : Type 0
  where
    met : AreMet w y c d
    device : IsJoined (state_of y.lines d) (eui_of w c) k.key k.sequence k.link
    network : HasNetwork (state_of y.lines c) k.key k.sequence
    keys : HasOffer (state_of y.lines c) (eui_of w d) drawn
    heard : OnAir y frames (offer_bytes tools (setting_of w c) (setting_of w d) k drawn)

pub same_key : (a b : Bytes) → Some a ≡ Some b → b ≡ a
same_key a b e = cc

offered : (tools : Tools) → DeliversCommands tools → OpensAsJudged tools
    → (w : Schedule) (x : Front) (c d : ℕ) (k : Seals) (drawn : Bytes) (frames : ℕ) → Asked tools w x c d k frames
    → NwkInRange k → ApsInRange k
    → supply w x.lines ≡ Some drawn → why_no_offer (state_of x.lines c) (eui_of w d) k (Some drawn) ≡ None
    → Offered tools w (after_event tools w x (Deliver frames c)) c d
    (seals_now (state_of x.lines c) k.key k.sequence k.link) drawn (frames + 1)
offered tools delivers opens w x c d k drawn frames a rn ra draw none =
    let met = a.met in
    let bytes = request_bytes tools (setting_of w c) (setting_of w d) k in
    let s = state_of x.lines c in
    let y = after_event tools w x (Deliver frames c) in
    let task = Received bytes (Some drawn) in
    let up = frame-up tools w x.lines x.disks x.number frames c bytes met.centre_ready.up a.heard.last in
    let b = centre_acts tools opens w x c d task (Deliver frames c) met (turned d c met.apart)
    (up ∙ ap (λ o. answer_step x.lines x.disks x.number c (answer tools (setting_of w c) s (Received bytes o)))
    draw) in
    let o = law.offers tools delivers (setting_of w c) (setting_of w d) s k (Some drawn) met.declared met.stations rn
    ra met.centre_steady.rules a.joined.network a.joined.keys none in
    let key = same_key drawn o.key o.drawn in
    record {
      met = b.met;
      device = subst (λ t. IsJoined t (eui_of w c) k.key k.sequence k.link) (sym b.device) a.joined.device;
      network = subst (λ u. HasNetwork u k.key k.sequence) (sym b.centre) o.network;
      keys = subst (λ u. HasOffer u (eui_of w d) drawn) (sym b.centre)
          (subst (HasOffer (after_task tools (setting_of w c) s task) (eui_of w d)) key
          (one_of (after_task tools (setting_of w c) s task) (eui_of w d) k.link o.key o.keys));
      heard =
          sent_on_air x y frames
          (offer_bytes tools (setting_of w c) (setting_of w d) (seals_now s k.key k.sequence k.link) drawn)
          (frame_of tools (setting_of w c) s task) a.heard.count b.on_air
          (o.sent ∙ ap
          (λ n. Some
          (offer_bytes tools (setting_of w c) (setting_of w d) (seals_now s k.key k.sequence k.link) n)) key);
    }

-- ---- the offer is kept

record Kept (tools : Tools) (w : Schedule) (y : Front) (c d : ℕ) (key : Bytes) (sequence : ℕ) (drawn : Bytes)
    (frames : ℕ) : Type 0 where
  met : AreMet w y c d
  device : IsOffered (state_of y.lines d) (eui_of w c) key sequence drawn
  network : HasNetwork (state_of y.lines c) key sequence
  keys : HasOffer (state_of y.lines c) (eui_of w d) drawn
  count : length (air y.lines) ≡ frames

kept : (tools : Tools) → DeliversCommands tools → OpensAsJudged tools
    → (w : Schedule) (x : Front) (c d : ℕ) (k : Seals) (drawn : Bytes) (frames : ℕ)
    → Offered tools w x c d k drawn frames → NwkInRange k → ApsInRange k → length drawn ≡ 16
    → has_link (eui_of w c) drawn (state_of x.lines d).links ≡ false
    → why_offer_not_kept (state_of x.lines d) (eui_of w c) k drawn ≡ None
    → Kept tools w (after_event tools w x (Deliver frames d)) c d k.key k.sequence drawn frames
kept tools delivers opens w x c d k drawn frames a rn ra long fresh none =
    let met = a.met in
    let bytes = offer_bytes tools (setting_of w c) (setting_of w d) k drawn in
    let t = state_of x.lines d in
    let task = Received bytes (supply w x.lines) in
    let b = device_acts tools opens w x c d task (Deliver frames d) met met.apart
    (frame-up tools w x.lines x.disks x.number frames d bytes met.device_ready.up a.heard.last) in
    let silent = law.keeps_silently tools delivers (setting_of w c) (setting_of w d) t k drawn (supply w x.lines)
    met.declared met.stations rn ra long met.device_steady.rules a.device fresh none in
    record {
      met = b.met;
      device = subst (λ u. IsOffered u (eui_of w c) k.key k.sequence drawn) (sym b.device)
          (law.keeps tools delivers (setting_of w c) (setting_of w d) t k drawn (supply w x.lines) met.declared
          met.stations rn ra long met.device_steady.rules a.device fresh none);
      network = subst (λ u. HasNetwork u k.key k.sequence) (sym b.centre) a.network;
      keys = subst (λ u. HasOffer u (eui_of w d) drawn) (sym b.centre) a.keys;
      count =
          ap (length {A = Bytes})
          (b.on_air ∙ ap (λ o. air x.lines ++ option_to_list o) silent ∙ append-nil (air x.lines)) ∙ a.heard.count;
    }

-- ---- the proof

record Shown (tools : Tools) (w : Schedule) (y : Front) (c d : ℕ) (k : Seals) (frames : ℕ) : Type 0 where
  met : AreMet w y c d
  device : IsOffered (state_of y.lines d) (eui_of w c) k.key k.sequence k.link
  network : HasNetwork (state_of y.lines c) k.key k.sequence
  keys : HasOffer (state_of y.lines c) (eui_of w d) k.link
  heard : OnAir y frames (proof_bytes tools (setting_of w c) (setting_of w d) k)

shown : (tools : Tools) → OpensAsJudged tools → (w : Schedule) (x : Front) (c d : ℕ) (key : Bytes) (sequence : ℕ)
    (drawn : Bytes) (frames : ℕ) → Kept tools w x c d key sequence drawn frames → why_no_proof (state_of x.lines d)
    ≡ None
    → Shown tools w (after_event tools w x (Own d DoTimer)) c d (seals_now (state_of x.lines d) key sequence drawn)
    (frames + 1)
shown tools opens w x c d key sequence drawn frames a none =
    let met = a.met in
    let y = after_event tools w x (Own d DoTimer) in
    let t = state_of x.lines d in
    let b = device_acts tools opens w x c d DoTimer (Own d DoTimer) met met.apart
    (own-up tools w x.lines x.disks x.number d DoTimer met.device_ready.up) in
    record {
      met = b.met;
      device = subst (λ u. IsOffered u (eui_of w c) key sequence drawn) (sym b.device)
          (law.shows_again tools (setting_of w c) (setting_of w d) t key sequence drawn met.declared a.device);
      network = subst (λ u. HasNetwork u key sequence) (sym b.centre) a.network;
      keys = subst (λ u. HasOffer u (eui_of w d) drawn) (sym b.centre) a.keys;
      heard =
          sent_on_air x y frames
          (proof_bytes tools (setting_of w c) (setting_of w d) (seals_now t key sequence drawn))
          (frame_of tools (setting_of w d) t DoTimer) a.count b.on_air
          (proof_sent tools (setting_of w c) (setting_of w d) t key sequence drawn met.declared a.device none);
    }

-- ---- the confirmation

record Told (tools : Tools) (w : Schedule) (y : Front) (c d : ℕ) (k : Seals) (frames : ℕ) : Type 0 where
  met : AreMet w y c d
  device : IsOffered (state_of y.lines d) (eui_of w c) k.key k.sequence k.link
  network : HasNetwork (state_of y.lines c) k.key k.sequence
  keys : HasProved (state_of y.lines c) (eui_of w d) k.link
  heard : OnAir y frames (confirmation_bytes tools (setting_of w c) (setting_of w d) k)

told : (tools : Tools) → DeliversCommands tools → OpensAsJudged tools
    → (w : Schedule) (x : Front) (c d : ℕ) (k : Seals) (frames : ℕ) → Shown tools w x c d k frames → NwkInRange k
    → why_no_confirmation (state_of x.lines c) (eui_of w d) k ≡ None
    → Told tools w (after_event tools w x (Deliver frames c)) c d
    (seals_now (state_of x.lines c) k.key k.sequence k.link) (frames + 1)
told tools delivers opens w x c d k frames a rn none =
    let met = a.met in
    let bytes = proof_bytes tools (setting_of w c) (setting_of w d) k in
    let s = state_of x.lines c in
    let y = after_event tools w x (Deliver frames c) in
    let task = Received bytes (supply w x.lines) in
    let b = centre_acts tools opens w x c d task (Deliver frames c) met (turned d c met.apart)
    (frame-up tools w x.lines x.disks x.number frames c bytes met.centre_ready.up a.heard.last) in
    let o = law.confirms tools delivers (setting_of w c) (setting_of w d) s k (supply w x.lines) met.declared
    met.stations rn met.centre_steady.rules a.network a.keys none in
    record {
      met = b.met;
      device = subst (λ t. IsOffered t (eui_of w c) k.key k.sequence k.link) (sym b.device) a.device;
      network = subst (λ u. HasNetwork u k.key k.sequence) (sym b.centre) o.network;
      keys = subst (λ u. HasProved u (eui_of w d) k.link) (sym b.centre) o.keys;
      heard =
          sent_on_air x y frames
          (confirmation_bytes tools (setting_of w c) (setting_of w d) (seals_now s k.key k.sequence k.link))
          (frame_of tools (setting_of w c) s task) a.heard.count b.on_air o.sent;
    }

-- ---- the end

ended : (tools : Tools) → DeliversCommands tools → OpensAsJudged tools
    → (w : Schedule) (x : Front) (c d : ℕ) (k : Seals) (frames : ℕ) → Told tools w x c d k frames → NwkInRange k
    → ApsInRange k
    → why_not_confirmed (state_of x.lines d) (eui_of w c) k ≡ None
    → EndsConfirmed w (after_event tools w x (Deliver frames d)) c d k.key k.sequence k.link
ended tools delivers opens w x c d k frames a rn ra none =
    let met = a.met in
    let bytes = confirmation_bytes tools (setting_of w c) (setting_of w d) k in
    let t = state_of x.lines d in
    let task = Received bytes (supply w x.lines) in
    let b = device_acts tools opens w x c d task (Deliver frames d) met met.apart
    (frame-up tools w x.lines x.disks x.number frames d bytes met.device_ready.up a.heard.last) in
    record {
      device = subst (λ u. IsConfirmed u (eui_of w c) k.key k.sequence k.link) (sym b.device)
          (law.ends tools delivers (setting_of w c) (setting_of w d) t k (supply w x.lines) met.declared met.stations
          rn ra met.device_steady.rules a.device none);
      network = subst (λ u. HasNetwork u k.key k.sequence) (sym b.centre) a.network;
      keys = subst (λ u. HasProved u (eui_of w d) k.link) (sym b.centre) a.keys;
      centre_ready = b.met.centre_ready;
      device_ready = b.met.device_ready;
    }

-- ---- a device that knocked has joined

record Introduced (tools : Tools) (w : Schedule) (y : Front) (c d : ℕ) (key : Bytes) (sequence : ℕ) (link : Bytes) :
    Type 0 where
  met : AreMet w y c d
  joined : HaveJoined w y c d key sequence link

introduced : (tools : Tools) → DeliversKeys tools → OpensAsJudged tools → (w : Schedule) (x : Front) (c d : ℕ)
    → (can : CanJoin w x c d) → IsNew w x c d can
    → Introduced tools w (joined_front tools w x c d) c d can.introduced.net.key can.introduced.net.sequence
    can.introduced.row.key
introduced tools delivers opens w x c d can new =
    let l = can.introduced in
    let s = state_of x.lines c in
    let t = state_of x.lines d in
    let bytes = key_bytes tools (answer_frame (setting_of w c) (setting_of w d) s l.net l.row) in
    let frames = length (air x.lines) in
    let child = HasChild d false in
    let y = after_event tools w x (Own c child) in
    let a = centre_acts tools opens w x c d child (Own c child) new.met (turned d c can.apart)
    (own-up tools w x.lines x.disks x.number c child can.centre_ready.up) in
    let sent : frame_of tools (setting_of w c) s child ≡ Some bytes =
    ap (λ n. frame_of tools (setting_of w c) s (HasChild n false)) (sym can.mine)
    ∙ sends_to tools (setting_of w c) (setting_of w d) s can.network l.net l.row l.active_key l.at_centre
    (unspent_of s d can.not_stopped) false in
    let heard = sent_on_air x y frames bytes (frame_of tools (setting_of w c) s child) refl a.on_air sent in
    let task = Received bytes (supply w y.lines) in
    let z = after_event tools w y (Deliver (frames + 1) d) in
    let b = device_acts tools opens w y c d task (Deliver (frames + 1) d) a.met can.apart
    (frame-up tools w y.lines y.disks y.number (frames + 1) d bytes a.met.device_ready.up heard.last) in
    let same = child_bare tools (setting_of w c) s d false can.network.centre_role in
    let mine : HasLink s (eui_of w d) l.row.key =
    record { row = l.row; is_current = l.at_centre; row_key = refl; none_offered = new.none_offered } in
    record {
      met = b.met;
      joined = record {
        device = subst (λ u. IsJoined u (eui_of w c) l.net.key l.net.sequence l.row.key)
            (sym (b.device ∙ ap (λ u. after_task tools (setting_of w d) u task) a.device))
            (is_joined tools delivers (setting_of w c) (setting_of w d) s t can.network l can.in_range can.rules
            (supply w y.lines) can.not_refused new.key_is_new);
        network = subst (λ u. HasNetwork u l.net.key l.net.sequence) (sym (b.centre ∙ a.centre))
            (network_left s (after_task tools (setting_of w c) s child) l.net.key l.net.sequence new.network same);
        keys = subst (λ u. HasLink u (eui_of w d) l.row.key) (sym (b.centre ∙ a.centre))
            (link_left s (after_task tools (setting_of w c) s child) (eui_of w d) l.row.key mine same);
      };
    }

-- ---- all of it

first_half : (tools : Tools) → DeliversCommands tools → OpensAsJudged tools
    → (w : Schedule) (x : Front) (c d : ℕ) (key : Bytes) (sequence : ℕ) (link drawn : Bytes) → AreMet w x c d
    → HaveJoined w x c d key sequence link → KeysInRange key sequence link → length drawn ≡ 16
    → NothingStops tools w x c d key sequence link drawn → Kept tools w (front_after tools w x c d 3) c d key sequence
    drawn (length (air x.lines) + 2)
first_half tools delivers opens w x c d key sequence link drawn met j r long n =
    let frames = length (air x.lines) in
    let free = sealed_free (state_of x.lines d) n.request in
    let more = sealed_free (state_of (front_after tools w x c d 1).lines c)
    (offer_free (state_of (front_after tools w x c d 1).lines c) (eui_of w d)
    (seals_now (state_of x.lines d) key sequence link) (Some drawn) n.offer) in
    let k1 = seals_now (state_of x.lines d) key sequence link in
    let k2 = seals_now (state_of (front_after tools w x c d 1).lines c) key sequence link in
    let a : Asked tools w (front_after tools w x c d 1) c d k1 (frames + 1) =
    asked tools opens w x c d key sequence link frames met j refl n.request in
    let b : Offered tools w (front_after tools w x c d 2) c d k2 drawn (frames + 1 + 1) =
    offered tools delivers opens w (front_after tools w x c d 1) c d k1 drawn (frames + 1) a
    (nwk_range (state_of x.lines d) key sequence link r.key_size r.small free.0)
    (aps_range (state_of x.lines d) key sequence link r.link_size free.1) n.draw n.offer in
    let same : frames + 1 + 1 ≡ frames + 2 = omega arith in
    let b2 : Offered tools w (front_after tools w x c d 2) c d k2 drawn (frames + 2) =
    subst (Offered tools w (front_after tools w x c d 2) c d k2 drawn) same b in
    kept tools delivers opens w (front_after tools w x c d 2) c d k2 drawn (frames + 2) b2
    (nwk_range (state_of (front_after tools w x c d 1).lines c) key sequence link r.key_size r.small more.0)
    (aps_range (state_of (front_after tools w x c d 1).lines c) key sequence link r.link_size more.1) long n.fresh
    n.kept

second_half : (tools : Tools) → DeliversCommands tools → OpensAsJudged tools
    → (w : Schedule) (x : Front) (c d : ℕ) (key : Bytes) (sequence : ℕ) (link drawn : Bytes)
    → KeysInRange key sequence link → length drawn ≡ 16
    → NothingStops tools w x c d key sequence link drawn → Kept tools w (front_after tools w x c d 3) c d key sequence
    drawn (length (air x.lines) + 2) → EndsConfirmed w (front_after tools w x c d 6) c d key sequence drawn
second_half tools delivers opens w x c d key sequence link drawn r long n a =
    let frames = length (air x.lines) in
    let t = state_of (front_after tools w x c d 3).lines d in
    let s = state_of (front_after tools w x c d 4).lines c in
    let k3 = seals_now t key sequence drawn in
    let k4 = seals_now s key sequence drawn in
    let free : spent Nwk t ≡ false = when_none (spent Nwk t) CounterSpent n.proof in
    let more = sealed_free s (confirmation_free s (eui_of w d) k3 n.confirmation) in
    let third : frames + 2 + 1 ≡ frames + 3 = omega arith in
    let fourth : frames + 3 + 1 ≡ frames + 4 = omega arith in
    let b : Shown tools w (front_after tools w x c d 4) c d k3 (frames + 3) =
    subst (Shown tools w (front_after tools w x c d 4) c d k3) third
    (shown tools opens w (front_after tools w x c d 3) c d key sequence drawn (frames + 2) a n.proof) in
    let e : Told tools w (front_after tools w x c d 5) c d k4 (frames + 4) =
    subst (Told tools w (front_after tools w x c d 5) c d k4) fourth
    (told tools delivers opens w (front_after tools w x c d 4) c d k3 (frames + 3) b
    (nwk_range t key sequence drawn r.key_size r.small free) n.confirmation) in
    ended tools delivers opens w (front_after tools w x c d 5) c d k4 (frames + 4) e
    (nwk_range s key sequence drawn r.key_size r.small more.0) (aps_range s key sequence drawn long more.1)
    n.confirmed

pub exchanged : (tools : Tools) → DeliversCommands tools → OpensAsJudged tools
    → (w : Schedule) (x : Front) (c d : ℕ) (key : Bytes) (sequence : ℕ) (link drawn : Bytes) → AreMet w x c d
    → HaveJoined w x c d key sequence link → KeysInRange key sequence link → length drawn ≡ 16
    → NothingStops tools w x c d key sequence link drawn
    → EndsConfirmed w (after_events tools w x (exchange_events x c d)) c d key sequence drawn
exchanged tools delivers opens w x c d key sequence link drawn met j r long n =
    second_half tools delivers opens w x c d key sequence link drawn r long n
    (first_half tools delivers opens w x c d key sequence link drawn met j r long n)

pub joined_and_exchanged : (tools : Tools) → DeliversKeys tools → DeliversCommands tools → OpensAsJudged tools
    → (w : Schedule) (x : Front) (c d : ℕ) (drawn : Bytes) → (can : CanJoin w x c d) → IsNew w x c d can
    → length drawn ≡ 16
    → NothingStops tools w (joined_front tools w x c d) c d can.introduced.net.key can.introduced.net.sequence
    can.introduced.row.key drawn
    → EndsConfirmed w (after_events tools w x (joining_events tools w x c d)) c d can.introduced.net.key
    can.introduced.net.sequence drawn
joined_and_exchanged tools keys delivers opens w x c d drawn can new long n =
    let l = can.introduced in
    let y = joined_front tools w x c d in
    let i = introduced tools keys opens w x c d can new in
    let range : KeysInRange l.net.key l.net.sequence l.row.key =
    record { key_size = can.in_range.key; small = can.in_range.sequence; link_size = can.in_range.link } in
    subst (λ z. EndsConfirmed w z c d l.net.key l.net.sequence drawn)
    (sym (fold-append (after_event tools w) x (join_events x c d) (exchange_events y c d)))
    (exchanged tools delivers opens w y c d l.net.key l.net.sequence l.row.key drawn i.met i.joined range long n)
