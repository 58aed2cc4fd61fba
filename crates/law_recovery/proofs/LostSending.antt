-- The device's timer: it asks for a link key, or proves the one that it was offered.
use Rattle.std.proofs.Common.{◌≡◌, ℕ, ◌+◌, length, Some, sym, subst}
use Rattle.zb_model.specs.Data.{Nwk, DoTimer, CounterSpent}
use Rattle.zb_model.specs.Play.{Schedule, Own, setting_of}
use Rattle.zb_model.specs.Readings.{air, state_of}
use Rattle.zb_model.specs.Rules.{spent}
use Rattle.zb_model.specs.State.{NodeState}
use Rattle.zb_model.specs.Tools.{Tools}
use Rattle.law_answer_storable.specs.Storing.{OpensAsJudged}
use Rattle.law_recovery.specs.Exchanging.{Seals, NwkInRange, ApsInRange}
use Rattle.law_recovery.specs.Meeting.{AreDeclared, HasNetwork}
use Rattle.law_recovery.proofs.Judged.{when_none}
use Rattle.law_recovery.proofs.Laws.{asks_again, shows_again}
use Rattle.law_recovery.proofs.Proving.{proof_sent}
use Rattle.law_recovery.proofs.Requesting.{request_sent}
use Rattle.law_recovery.specs.Answering.{after_task, frame_of}
use Rattle.law_recovery.specs.Fronts.{Front}
use Rattle.law_recovery.specs.KeyExchange.{AreMet, KeysInRange, eui_of}
use Rattle.law_recovery.proofs.Confirmed.{DeviceActs, OnAir, device_acts, nwk_range, aps_range, sealed_free, sent_on_air}
use Rattle.law_run_steps.proofs.Others.{own-up}
use Rattle.law_recovery.specs.Turns.{Far, Asking, Offering, Proving, Proved, Done}
use Rattle.law_recovery.specs.Stages.{Keys, DeviceIs, CentreHas, HaveCome, Sends, asked_bytes, device_seals, timed}
use Rattle.law_recovery.specs.Stops.{IsUnderWay}

-- the counters of what was sent are in their range; a proof uses no counter at APS
abbrev pub InRange : Far → Seals → Type 0
InRange Asking f = NwkInRange f × ApsInRange f
InRange Offering f = NwkInRange f × ApsInRange f
InRange _ f = NwkInRange f

pub record HasSent (tools : Tools) (w : Schedule) (x : Front) (c d : ℕ) (k : Keys) (far : Far) (frames : ℕ) : Type 0
  where
    pub come : HaveCome w (timed tools w x d) c d k far
    pub range : InRange far (device_seals far (state_of x.lines d) k)
    pub on_air : OnAir (timed tools w x d) (frames + 1)
        (asked_bytes far tools w c d (device_seals far (state_of x.lines d) k))

pub record KeysFit (k : Keys) : Type 0 where
  pub range : KeysInRange k.network k.sequence k.link
  pub drawn : length k.drawn ≡ 16

abbrev Acts : Tools → Schedule → Front → ℕ → ℕ → Type 0
Acts tools w x c d = DeviceActs tools w x (timed tools w x d) c d DoTimer

acts : (tools : Tools) → OpensAsJudged tools → (w : Schedule) (x : Front) (c d : ℕ) → AreMet w x c d
    → Acts tools w x c d
acts tools opens w x c d met = device_acts tools opens w x c d DoTimer (Own d DoTimer) met met.apart
    (own-up tools w x.lines x.disks x.number d DoTimer met.device_ready.up)

pub under_way : (far : Far) (t : NodeState) → Sends far t → IsUnderWay far
under_way Asking t none = tt
under_way Offering t none = tt
under_way Proving t none = tt
under_way Proved t none = tt
under_way Done t none = absurd (cc)

-- the device as the timer leaves it
pub still : (tools : Tools) (w : Schedule) (c d : ℕ) (t : NodeState) (k : Keys) (far : Far)
    → AreDeclared (setting_of w c) (setting_of w d) → DeviceIs far t (eui_of w c) k → IsUnderWay far
    → DeviceIs far (after_task tools (setting_of w d) t DoTimer) (eui_of w c) k
still tools w c d t k Asking declared j under =
    asks_again tools (setting_of w c) (setting_of w d) t k.network k.sequence k.link declared j
still tools w c d t k Offering declared j under =
    asks_again tools (setting_of w c) (setting_of w d) t k.network k.sequence k.link declared j
still tools w c d t k Proving declared j under =
    shows_again tools (setting_of w c) (setting_of w d) t k.network k.sequence k.drawn declared j
still tools w c d t k Proved declared j under =
    shows_again tools (setting_of w c) (setting_of w d) t k.network k.sequence k.drawn declared j
still tools w c d t k Done declared j under = absurd under

pub frame_is : (tools : Tools) (w : Schedule) (c d : ℕ) (t : NodeState) (k : Keys) (far : Far)
    → AreDeclared (setting_of w c) (setting_of w d) → DeviceIs far t (eui_of w c) k → Sends far t
    → frame_of tools (setting_of w d) t DoTimer ≡ Some (asked_bytes far tools w c d (device_seals far t k))
frame_is tools w c d t k Asking declared j none =
    request_sent tools (setting_of w c) (setting_of w d) t k.network k.sequence k.link declared j none
frame_is tools w c d t k Offering declared j none =
    request_sent tools (setting_of w c) (setting_of w d) t k.network k.sequence k.link declared j none
frame_is tools w c d t k Proving declared j none =
    proof_sent tools (setting_of w c) (setting_of w d) t k.network k.sequence k.drawn declared j none
frame_is tools w c d t k Proved declared j none =
    proof_sent tools (setting_of w c) (setting_of w d) t k.network k.sequence k.drawn declared j none
frame_is tools w c d t k Done declared j none = absurd (cc)

request_range : (t : NodeState) (k : Keys) → KeysFit k → Sends Asking t → InRange Asking (device_seals Asking t k)
request_range t k fit none =
    let free = sealed_free t none in (
      nwk_range t k.network k.sequence k.link fit.range.key_size fit.range.small free.0,
      aps_range t k.network k.sequence k.link fit.range.link_size free.1,
    )

proof_range : (t : NodeState) (k : Keys) → KeysFit k → Sends Proving t → InRange Proving (device_seals Proving t k)
proof_range t k fit none =
    nwk_range t k.network k.sequence k.drawn fit.range.key_size fit.range.small
    (when_none (spent Nwk t) CounterSpent none)

pub ranges : (t : NodeState) (k : Keys) (far : Far) → KeysFit k → Sends far t → InRange far (device_seals far t k)
ranges t k Asking fit none = request_range t k fit none
ranges t k Offering fit none = request_range t k fit none
ranges t k Proving fit none = proof_range t k fit none
ranges t k Proved fit none = proof_range t k fit none
ranges t k Done fit none = absurd (cc)

pub device_sends : (tools : Tools) → OpensAsJudged tools → (w : Schedule) (x : Front) (c d : ℕ) (k : Keys) (far : Far)
    (frames : ℕ) → KeysFit k → HaveCome w x c d k far → length (air x.lines) ≡ frames → Sends far (state_of x.lines d)
    → HasSent tools w x c d k far frames
device_sends tools opens w x c d k far frames fit h count none =
    let y = timed tools w x d in
    let a = acts tools opens w x c d h.met in
    record {
      come = record {
        met = a.met;
        network = subst (λ s. HasNetwork s k.network k.sequence) (sym a.centre) h.network;
        device = subst (λ s. DeviceIs far s (eui_of w c) k) (sym a.device)
            (still tools w c d (state_of x.lines d) k far h.met.declared h.device
            (under_way far (state_of x.lines d) none));
        centre = subst (λ s. CentreHas far s (eui_of w d) k) (sym a.centre) h.centre;
      };
      range = ranges (state_of x.lines d) k far fit none;
      on_air =
          sent_on_air x y frames (asked_bytes far tools w c d (device_seals far (state_of x.lines d) k))
          (frame_of tools (setting_of w d) (state_of x.lines d) DoTimer) count a.on_air
          (frame_is tools w c d (state_of x.lines d) k far h.met.declared h.device none);
    }
