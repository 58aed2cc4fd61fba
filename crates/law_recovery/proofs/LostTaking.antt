-- The device's frame is delivered to the centre, and the centre's to the device.
use Rattle.std.proofs.Common.{◌≡◌, ℕ, ◌+◌, false, Option, None, Some, sym, ap, ◌∙◌, subst}
use Rattle.zb_model.specs.Data.{Bytes, Nwk, Aps, Received}
use Rattle.zb_model.specs.Play.{Schedule, Deliver, setting_of, supply}
use Rattle.zb_model.specs.Readings.{state_of}
use Rattle.zb_model.specs.Rules.{spent}
use Rattle.zb_model.specs.State.{NodeState}
use Rattle.zb_model.specs.Tools.{Tools}
use Rattle.law_answer_storable.specs.Storing.{OpensAsJudged}
use Rattle.law_recovery.specs.CommandFrames.{DeliversCommands}
use Rattle.law_recovery.specs.Exchanging.{Seals, NwkInRange, ApsInRange, offer_bytes, request_bytes, seals_now}
use Rattle.law_recovery.specs.Meeting.{HasBoth, HasNetwork}
use Rattle.law_recovery.specs.Obstacles.{why_not_sealed}
use Rattle.law_recovery.proofs.Again.{again_free, again_offered, confirmed_again}
use Rattle.law_recovery.proofs.Laws as law
use Rattle.law_recovery.proofs.Keeping.{one_of}
use Rattle.law_recovery.specs.Answering.{after_task, frame_of}
use Rattle.law_recovery.specs.Fronts.{Front, after_event}
use Rattle.law_recovery.specs.KeyExchange.{eui_of}
use Rattle.law_recovery.proofs.Confirmed.{OnAir, aps_range, centre_acts, confirmation_free, device_acts, nwk_range, offer_free, same_key, sealed_free, sent_on_air}
use Rattle.law_recovery.proofs.Exchanged.{turned}
use Rattle.law_run_steps.proofs.Others.{frame-up}
use Rattle.law_recovery.specs.Turns.{Far, Asking, Offering, Proving, Proved, Done, answered_from, unanswered_from}
use Rattle.law_recovery.specs.Stages.{Keys, DeviceIs, CentreHas, HaveCome, CentreTakes, DeviceTakes, asked_bytes, centre_seals, device_seals, told_bytes}
use Rattle.law_recovery.specs.Stops.{HaveKept}
use Rattle.law_recovery.proofs.LostSending.{InRange, KeysFit}

-- ---- the centre

-- two nodes that are ready and at this stage
pub kept_so : (w : Schedule) (x : Front) (c d : ℕ) (k : Keys) (far : Far) → HaveCome w x c d k far
    → HaveKept w x c d k far
kept_so w x c d k far h = record {
  apart = h.met.apart;
  declared = h.met.declared;
  stations = h.met.stations;
  centre_steady = h.met.centre_steady;
  device_steady = h.met.device_steady;
  network = h.network;
  device = h.device;
  centre = h.centre;
}

-- what the centre made of the device's frame: its state, and its frame
pub record Answers (far : Far) (tools : Tools) (w : Schedule) (s u : NodeState) (c d : ℕ) (k : Keys)
    (frame : Option Bytes) : Type 0 where
  pub network : HasNetwork u k.network k.sequence
  pub centre : CentreHas (unanswered_from far) u (eui_of w d) k
  pub sent : frame ≡ Some (told_bytes far tools w c d k (centre_seals far s k))
  pub unspent : why_not_sealed s ≡ None

-- a front with the device's frame as the last on the air
pub record IsAsked (tools : Tools) (w : Schedule) (y : Front) (c d : ℕ) (k : Keys) (far : Far) (f : Seals)
    (frames : ℕ) : Type 0 where
  pub come : HaveCome w y c d k far
  pub range : InRange far f
  pub on_air : OnAir y frames (asked_bytes far tools w c d f)

pub answers_by : (tools : Tools) → DeliversCommands tools → (w : Schedule) (y : Front) (c d : ℕ) (k : Keys) (far : Far)
    (t : NodeState) → HaveKept w y c d k far → InRange far (device_seals far t k)
    → CentreTakes far tools w y c d k (device_seals far t k)
    → Answers far tools w (state_of y.lines c)
    (after_task tools (setting_of w c) (state_of y.lines c)
    (Received (asked_bytes far tools w c d (device_seals far t k)) (supply w y.lines))) c d k
    (frame_of tools (setting_of w c) (state_of y.lines c)
    (Received (asked_bytes far tools w c d (device_seals far t k)) (supply w y.lines)))
answers_by tools delivers w y c d k Asking t h range takes =
    let f = device_seals Asking t k in
    let s = state_of y.lines c in
    let bytes = request_bytes tools (setting_of w c) (setting_of w d) f in
    let o = law.offers tools delivers (setting_of w c) (setting_of w d) s f (Some k.drawn) h.declared h.stations
    range.0 range.1 h.centre_steady.rules h.network h.centre takes.1 in
    let key = same_key k.drawn o.key o.drawn in
    subst (λ draw. Answers Asking tools w s (after_task tools (setting_of w c) s (Received bytes draw)) c d k
    (frame_of tools (setting_of w c) s (Received bytes draw))) (sym takes.0)
    (record {
      network = o.network;
      centre = subst
          (HasBoth (after_task tools (setting_of w c) s (Received bytes (Some k.drawn))) (eui_of w d) k.link) key
          o.keys;
      sent = o.sent ∙ ap
          (λ n. Some
          (offer_bytes tools (setting_of w c) (setting_of w d) (seals_now s k.network k.sequence k.link) n)) key;
      unspent = offer_free s (eui_of w d) f (Some k.drawn) takes.1;
    })
answers_by tools delivers w y c d k Offering t h range takes =
    let f = device_seals Offering t k in
    let s = state_of y.lines c in
    let o = again_offered tools delivers (setting_of w c) (setting_of w d) s f k.drawn (supply w y.lines)
    h.declared h.stations range.0 range.1 h.centre_steady.rules h.network h.centre takes.0 takes.1 in
    record {
      network = o.network;
      centre = o.keys;
      sent = o.sent;
      unspent = again_free s (eui_of w d) f takes.1;
    }
answers_by tools delivers w y c d k Proving t h range takes =
    let f = device_seals Proving t k in
    let s = state_of y.lines c in
    let o = law.confirms tools delivers (setting_of w c) (setting_of w d) s f (supply w y.lines) h.declared
    h.stations range h.centre_steady.rules h.network h.centre takes in
    record {
      network = o.network;
      centre = o.keys;
      sent = o.sent;
      unspent = confirmation_free s (eui_of w d) f takes;
    }
answers_by tools delivers w y c d k Proved t h range takes =
    let f = device_seals Proved t k in
    let s = state_of y.lines c in
    let o = confirmed_again tools delivers (setting_of w c) (setting_of w d) s f (supply w y.lines) h.declared
    h.stations range h.network h.centre takes in
    record {
      network = o.network;
      centre = o.keys;
      sent = o.sent;
      unspent = confirmation_free s (eui_of w d) f takes;
    }
answers_by tools delivers w y c d k Done t h range takes = absurd (cc)

-- the device is at the same stage
pub device_stays : (t : NodeState) (centre : ℕ) (k : Keys) (far : Far) → DeviceIs far t centre k
    → DeviceIs (unanswered_from far) t centre k
device_stays t centre k Asking j = j
device_stays t centre k Offering j = j
device_stays t centre k Proving j = j
device_stays t centre k Proved j = j
device_stays t centre k Done j = j

-- a front with the centre's frame as the last on the air
pub record IsTold (tools : Tools) (w : Schedule) (z : Front) (c d : ℕ) (k : Keys) (far : Far) (f : Seals)
    (frames : ℕ) : Type 0 where
  pub come : HaveCome w z c d k (unanswered_from far)
  pub range : NwkInRange f × ApsInRange f
  pub on_air : OnAir z frames (told_bytes far tools w c d k f)

pub centre_range : (far : Far) (s : NodeState) (k : Keys) → KeysFit k → why_not_sealed s ≡ None
    → NwkInRange (centre_seals far s k) × ApsInRange (centre_seals far s k)
centre_range far s k fit none = by_far far (sealed_free s none)
  where
    by_far : (far : Far) → (spent Nwk s ≡ false) × (spent Aps s ≡ false)
        → NwkInRange (centre_seals far s k) × ApsInRange (centre_seals far s k)
    by_far Asking free = (
      nwk_range s k.network k.sequence k.link fit.range.key_size fit.range.small free.0,
      aps_range s k.network k.sequence k.link fit.range.link_size free.1,
    )
    by_far Offering free = (
      nwk_range s k.network k.sequence k.link fit.range.key_size fit.range.small free.0,
      aps_range s k.network k.sequence k.link fit.range.link_size free.1,
    )
    by_far _ free = (
      nwk_range s k.network k.sequence k.drawn fit.range.key_size fit.range.small free.0,
      aps_range s k.network k.sequence k.drawn fit.drawn free.1,
    )

pub centre_answers : (tools : Tools) → DeliversCommands tools → OpensAsJudged tools → (w : Schedule) (y : Front)
    (c d : ℕ) (k : Keys) (far : Far) (t : NodeState) (frames : ℕ) → KeysFit k
    → IsAsked tools w y c d k far (device_seals far t k) frames
    → CentreTakes far tools w y c d k (device_seals far t k)
    → IsTold tools w (after_event tools w y (Deliver frames c)) c d k far (centre_seals far (state_of y.lines c) k)
    (frames + 1)
centre_answers tools delivers opens w y c d k far t frames fit a takes =
    let h = a.come in
    let s = state_of y.lines c in
    let bytes = asked_bytes far tools w c d (device_seals far t k) in
    let task = Received bytes (supply w y.lines) in
    let z = after_event tools w y (Deliver frames c) in
    let b = centre_acts tools opens w y c d task (Deliver frames c) h.met (turned d c h.met.apart)
    (frame-up tools w y.lines y.disks y.number frames c bytes h.met.centre_ready.up a.on_air.last) in
    let o = answers_by tools delivers w y c d k far t (kept_so w y c d k far h) a.range takes in
    record {
      come = record {
        met = b.met;
        network = subst (λ u. HasNetwork u k.network k.sequence) (sym b.centre) o.network;
        device = subst (λ t. DeviceIs (unanswered_from far) t (eui_of w c) k) (sym b.device)
            (device_stays (state_of y.lines d) (eui_of w c) k far h.device);
        centre = subst (λ u. CentreHas (unanswered_from far) u (eui_of w d) k) (sym b.centre) o.centre;
      };
      range = centre_range far s k fit o.unspent;
      on_air =
          sent_on_air y z frames (told_bytes far tools w c d k (centre_seals far s k))
          (frame_of tools (setting_of w c) s task) a.on_air.count b.on_air o.sent;
    }

-- ---- the device

pub device_takes : (tools : Tools) → DeliversCommands tools → (w : Schedule) (z : Front) (c d : ℕ) (k : Keys)
    (far : Far) (s : NodeState) (draw : Option Bytes) → KeysFit k → HaveKept w z c d k (unanswered_from far)
    → NwkInRange (centre_seals far s k) × ApsInRange (centre_seals far s k)
    → DeviceTakes far w z c d k (centre_seals far s k)
    → DeviceIs (answered_from far)
    (after_task tools (setting_of w d) (state_of z.lines d)
    (Received (told_bytes far tools w c d k (centre_seals far s k)) draw)) (eui_of w c) k
device_takes tools delivers w z c d k Asking s draw fit h r takes =
    law.keeps tools delivers (setting_of w c) (setting_of w d) (state_of z.lines d) (centre_seals Asking s k) k.drawn
    draw h.declared h.stations r.0 r.1 fit.drawn h.device_steady.rules h.device takes.0 takes.1
device_takes tools delivers w z c d k Offering s draw fit h r takes =
    law.keeps tools delivers (setting_of w c) (setting_of w d) (state_of z.lines d) (centre_seals Offering s k) k.drawn
    draw h.declared h.stations r.0 r.1 fit.drawn h.device_steady.rules h.device takes.0 takes.1
device_takes tools delivers w z c d k Proving s draw fit h r takes =
    law.ends tools delivers (setting_of w c) (setting_of w d) (state_of z.lines d) (centre_seals Proving s k) draw
    h.declared h.stations r.0 r.1 h.device_steady.rules h.device takes
device_takes tools delivers w z c d k Proved s draw fit h r takes =
    law.ends tools delivers (setting_of w c) (setting_of w d) (state_of z.lines d) (centre_seals Proved s k) draw
    h.declared h.stations r.0 r.1 h.device_steady.rules h.device takes
device_takes tools delivers w z c d k Done s draw fit h r takes = absurd (cc)

-- the centre still has its keys when the turn ends
pub centre_stays : (s : NodeState) (device : ℕ) (k : Keys) (far : Far) → CentreHas (unanswered_from far) s device k
    → CentreHas (answered_from far) s device k
centre_stays s device k Asking h = one_of s device k.link k.drawn h
centre_stays s device k Offering h = one_of s device k.link k.drawn h
centre_stays s device k Proving h = h
centre_stays s device k Proved h = h
centre_stays s device k Done h = h

pub device_ends : (tools : Tools) → DeliversCommands tools → OpensAsJudged tools → (w : Schedule) (z : Front)
    (c d : ℕ) (k : Keys) (far : Far) (s : NodeState) (frames : ℕ) → KeysFit k
    → IsTold tools w z c d k far (centre_seals far s k) frames → DeviceTakes far w z c d k (centre_seals far s k)
    → HaveCome w (after_event tools w z (Deliver frames d)) c d k (answered_from far)
device_ends tools delivers opens w z c d k far s frames fit a takes =
    let h = a.come in
    let bytes = told_bytes far tools w c d k (centre_seals far s k) in
    let task = Received bytes (supply w z.lines) in
    let b = device_acts tools opens w z c d task (Deliver frames d) h.met h.met.apart
    (frame-up tools w z.lines z.disks z.number frames d bytes h.met.device_ready.up a.on_air.last) in
    record {
      met = b.met;
      network = subst (λ u. HasNetwork u k.network k.sequence) (sym b.centre) h.network;
      device = subst (λ t. DeviceIs (answered_from far) t (eui_of w c) k) (sym b.device)
          (device_takes tools delivers w z c d k far s (supply w z.lines) fit
          (kept_so w z c d k (unanswered_from far) h) a.range takes);
      centre = subst (λ u. CentreHas (answered_from far) u (eui_of w d) k) (sym b.centre)
          (centre_stays (state_of z.lines c) (eui_of w d) k far h.centre);
    }
