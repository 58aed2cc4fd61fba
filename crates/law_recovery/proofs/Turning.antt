-- A turn of the exchange, and turns one after the other.
use Rattle.std.proofs.Common.{◌≡◌, ℕ, ◌+◌, ◌⊎◌, inl, inr, false, List, [], ◌∷◌, length, Some, refl, sym, ap, ◌∙◌, subst, arith}
use Rattle.zb_model.specs.Answer.{answer}
use Rattle.zb_model.specs.Data.{Received}
use Rattle.zb_model.specs.Play.{Schedule, Event, Deliver, setting_of, supply}
use Rattle.zb_model.specs.Readings.{air, state_of}
use Rattle.zb_model.specs.Tools.{Tools}
use Rattle.law_answer_storable.specs.Storing.{OpensAsJudged}
use Rattle.law_recovery.specs.CommandFrames.{DeliversCommands}
use Rattle.law_recovery.specs.Meeting.{HasNetwork, IsSteady}
use Rattle.law_recovery.proofs.Baring.{bare}
use Rattle.law_recovery.proofs.Refusing.{refused_bare}
use Rattle.law_recovery.specs.Answering.{after_task}
use Rattle.law_recovery.specs.Fronts.{Front, after_event}
use Rattle.law_recovery.specs.KeyExchange.{AreMet, EndsConfirmed, HaveJoined, eui_of}
use Rattle.law_recovery.proofs.Confirmed.{centre_acts, device_acts}
use Rattle.law_recovery.proofs.Exchanged.{left-by, turned}
use Rattle.law_run_steps.proofs.Others.{frame-up}
use Rattle.law_run_steps.specs.Steps.{is_of}
use Rattle.law_recovery.specs.Turns.{Far, Asking, Done, Turn, Unheard, Unanswered, Answered, Refused, Elsewhere, after_turn, after_turns, far_after, far_after_all}
use Rattle.law_recovery.specs.Stages.{Keys, DeviceIs, CentreHas, HaveCome, IsFree, AreFree, IsRefused, centre_seals, heard, timed}
use Rattle.law_recovery.proofs.LostSending.{KeysFit, device_sends}
use Rattle.law_recovery.proofs.Staying.{centre_left, device_left}
use Rattle.law_recovery.proofs.LostTaking.{IsTold, centre_answers, device_ends}

-- ---- a frame that is refused, and events elsewhere

-- after a frame was delivered to a node
abbrev CameTo : Tools → Schedule → Front → ℕ → ℕ → Keys → Far → ℕ → ℕ → Type 0
CameTo tools w x c d k far frame node = HaveCome w (after_event tools w x (Deliver frame node)) c d k far

pub refused_turn : (tools : Tools) → OpensAsJudged tools → (w : Schedule) (x : Front) (c d : ℕ) (k : Keys) (far : Far)
    (frame node : ℕ) → HaveCome w x c d k far → IsRefused tools w x c d frame node
    → HaveCome w (after_event tools w x (Deliver frame node)) c d k far
refused_turn tools opens w x c d k far frame node h r = by_node r.one
  where
    centre_refuses : node ≡ c → CameTo tools w x c d k far frame c
    centre_refuses e =
        let s = state_of x.lines c in
        let task = Received r.bytes (supply w x.lines) in
        let b = centre_acts tools opens w x c d task (Deliver frame c) h.met (turned d c h.met.apart)
        (frame-up tools w x.lines x.disks x.number frame c r.bytes h.met.centre_ready.up r.on_air) in
        let same : bare (after_task tools (setting_of w c) s task) ≡ bare s =
        refused_bare tools (setting_of w c) s task r.reason
        (subst (λ n. (answer tools (setting_of w n) (state_of x.lines n) task).refusal ≡ Some r.reason) e r.refused) in
        let now : bare (state_of (after_event tools w x (Deliver frame c)).lines c) ≡ bare s = ap bare b.centre ∙ same
        in
        let left = centre_left s (state_of (after_event tools w x (Deliver frame c)).lines c) (eui_of w d) k far
        h.network h.centre now in
        record {
          met = b.met;
          network = left.network;
          device = subst (λ t. DeviceIs far t (eui_of w c) k) (sym b.device) h.device;
          centre = left.centre;
        }

    device_refuses : node ≡ d → CameTo tools w x c d k far frame d
    device_refuses e =
        let t = state_of x.lines d in
        let task = Received r.bytes (supply w x.lines) in
        let b = device_acts tools opens w x c d task (Deliver frame d) h.met h.met.apart
        (frame-up tools w x.lines x.disks x.number frame d r.bytes h.met.device_ready.up r.on_air) in
        let same : bare (after_task tools (setting_of w d) t task) ≡ bare t =
        refused_bare tools (setting_of w d) t task r.reason
        (subst (λ n. (answer tools (setting_of w n) (state_of x.lines n) task).refusal ≡ Some r.reason) e r.refused) in
        let now : bare (state_of (after_event tools w x (Deliver frame d)).lines d) ≡ bare t = ap bare b.device ∙ same
        in
        record {
          met = b.met;
          network = subst (λ s. HasNetwork s k.network k.sequence) (sym b.centre) h.network;
          device = device_left t (state_of (after_event tools w x (Deliver frame d)).lines d) (eui_of w c) k far
              h.device now;
          centre = subst (λ s. CentreHas far s (eui_of w d) k) (sym b.centre) h.centre;
        }

    by_node : (node ≡ c) ⊎ (node ≡ d) → CameTo tools w x c d k far frame node
    by_node (inl e) = subst (CameTo tools w x c d k far frame) (sym e) (centre_refuses e)
    by_node (inr e) = subst (CameTo tools w x c d k far frame) (sym e) (device_refuses e)

elsewhere_turn : (tools : Tools) (w : Schedule) (x : Front) (c d : ℕ) (k : Keys) (far : Far) (event : Event)
    → HaveCome w x c d k far → is_of c event ≡ false → is_of d event ≡ false
    → HaveCome w (after_event tools w x event) c d k far
elsewhere_turn tools w x c d k far event h not_c not_d =
    let a = left-by tools w x c event not_c in
    let b = left-by tools w x d event not_d in
    let met = h.met in
    record {
      met = record {
        apart = met.apart;
        declared = met.declared;
        stations = met.stations;
        centre_ready = a.ready met.centre_ready;
        device_ready = b.ready met.device_ready;
        centre_steady = subst (IsSteady (setting_of w c)) (sym a.state)
            met.centre_steady;
        device_steady = subst (IsSteady (setting_of w d)) (sym b.state)
            met.device_steady;
      };
      network = subst (λ s. HasNetwork s k.network k.sequence) (sym a.state) h.network;
      device = subst (λ t. DeviceIs far t (eui_of w c) k) (sym b.state) h.device;
      centre = subst (λ s. CentreHas far s (eui_of w d) k) (sym a.state) h.centre;
    }

-- ---- one turn

pub one_turn : (tools : Tools) → DeliversCommands tools → OpensAsJudged tools → (w : Schedule) (x : Front) (c d : ℕ)
    (k : Keys) (far : Far) (turn : Turn) → KeysFit k → HaveCome w x c d k far → IsFree tools w x c d k far turn
    → HaveCome w (after_turn tools w c d x turn) c d k (far_after far turn)
one_turn tools delivers opens w x c d k far Unheard fit h free =
    (device_sends tools opens w x c d k far (length (air x.lines)) fit h refl free).come
one_turn tools delivers opens w x c d k far Unanswered fit h free =
    let frames = length (air x.lines) in
    let a = device_sends tools opens w x c d k far frames fit h refl free.0 in
    (centre_answers tools delivers opens w (timed tools w x d) c d k far (state_of x.lines d) (frames + 1) fit
    (record { come = a.come; range = a.range; on_air = a.on_air }) free.1).come
one_turn tools delivers opens w x c d k far Answered fit h free =
    let frames = length (air x.lines) in
    let y = timed tools w x d in
    let z = heard tools w x c d in
    let s = state_of y.lines c in
    let a = device_sends tools opens w x c d k far frames fit h refl free.0.0 in
    let b = centre_answers tools delivers opens w y c d k far (state_of x.lines d) (frames + 1) fit
    (record { come = a.come; range = a.range; on_air = a.on_air }) free.0.1 in
    let same : frames + 1 + 1 ≡ frames + 2 = omega arith in
    device_ends tools delivers opens w z c d k far s (frames + 2) fit
    (subst (IsTold tools w z c d k far (centre_seals far s k)) same b) free.1
one_turn tools delivers opens w x c d k far (Refused frame node) fit h free =
    refused_turn tools opens w x c d k far frame node h free
one_turn tools delivers opens w x c d k far (Elsewhere event) fit h free =
    elsewhere_turn tools w x c d k far event h free.0 free.1

-- ---- turns

pub all_turns : (tools : Tools) → DeliversCommands tools → OpensAsJudged tools → (w : Schedule) (x : Front) (c d : ℕ)
    (k : Keys) (far : Far) (turns : List Turn) → KeysFit k → HaveCome w x c d k far
    → AreFree tools w c d k x far turns
    → HaveCome w (after_turns tools w c d x turns) c d k (far_after_all far turns)
all_turns tools delivers opens w x c d k far [] fit h free = h
all_turns tools delivers opens w x c d k far (turn ∷ turns) fit h free =
    all_turns tools delivers opens w (after_turn tools w c d x turn) c d k (far_after far turn) turns fit
    (one_turn tools delivers opens w x c d k far turn fit h free.0) free.1

pub turns_confirm : (tools : Tools) → DeliversCommands tools → OpensAsJudged tools → (w : Schedule) (x : Front)
    (c d : ℕ) (k : Keys) (turns : List Turn) → KeysFit k → AreMet w x c d
    → HaveJoined w x c d k.network k.sequence k.link
    → far_after_all Asking turns ≡ Done → AreFree tools w c d k x Asking turns
    → EndsConfirmed w (after_turns tools w c d x turns) c d k.network k.sequence k.drawn
turns_confirm tools delivers opens w x c d k turns fit met j over free =
    let h = subst (HaveCome w (after_turns tools w c d x turns) c d k) over
    (all_turns tools delivers opens w x c d k Asking turns fit
    (record { met = met; network = j.network; device = j.device; centre = j.keys }) free) in
    record {
      device = h.device;
      network = h.network;
      keys = h.centre;
      centre_ready = h.met.centre_ready;
      device_ready = h.met.device_ready;
    }
