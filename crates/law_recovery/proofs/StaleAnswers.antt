-- Turns whose answers the device refuses as stale: each uses a counter of the centre at each layer, and leaves the
-- device's floors within a block of the centre's first counters. So they are fewer than the block.
use Rattle.std.proofs.Common.{◌≡◌, ℕ, zero, suc, ◌+◌, ◌-◌, ◌<◌, ◌≤◌, inr, Bool, true, false, find, length, Option, Some, None, option_map, nat_eq, refl, sym, ap, ◌∙◌, subst, arith}
use Rattle.zb_model.specs.Answer.{answer}
use Rattle.zb_model.specs.Data.{Bytes, Nwk, Aps, Reason, Stale, RowsFull, DoTimer, Received}
use Rattle.zb_model.specs.Play.{Schedule, Deliver, Own, frame_at, setting_of, supply}
use Rattle.zb_model.specs.Readings.{air, state_of}
use Rattle.zb_model.specs.Rules.{Setting, links_full}
use Rattle.zb_model.specs.State.{NetKey, LinkKey, NodeState, SenderFloor, floor_of_sender, has_link, next_counter, other_user, sender_floor, usable_of}
use Rattle.zb_model.specs.Tools.{Tools}
use Rattle.law_answer_storable.specs.Storing.{OpensAsJudged}
use Rattle.law_recovery.specs.CommandFrames.{DeliversCommands, LinkFrame, LinkFrameInRange, NetFrame}
use Rattle.law_recovery.specs.Exchanging.{Seals, ApsInRange, NwkInRange, StationsInRange, confirmation, confirmation_bytes, net_frame, offer, offer_bytes, request_bytes}
use Rattle.law_recovery.specs.Meeting.{AreDeclared, HasNetwork, IsJoined, IsOffered, IsSteady}
use Rattle.law_recovery.specs.Obstacles.{or_else, obstacle_if, why_key_in_use, why_not_heard, why_not_kept, why_not_opened}
use Rattle.law_recovery.proofs.Confirming.{confirm_refused}
use Rattle.law_recovery.proofs.Counting.{GoesOn, offer_counts, request_quiet}
use Rattle.law_recovery.proofs.CountingAnswers.{again_counts, confirmed_again_counts, confirmed_counts}
use Rattle.law_recovery.proofs.Laws.{keep_refused, not_kept}
use Rattle.law_recovery.proofs.Offering.{heard_down}
use Rattle.law_recovery.proofs.Proving.{proof_quiet}
use Rattle.law_recovery.proofs.Quiet.{links_kept, quiet, still_net, usable_still}
use Rattle.law_recovery.proofs.Requesting.{net_range}
use Rattle.law_recovery.specs.Answering.{after_task}
use Rattle.law_recovery.specs.Fronts.{Front}
use Rattle.law_recovery.specs.KeyExchange.{eui_of}
use Rattle.law_recovery.proofs.Confirmed.{centre_acts, device_acts}
use Rattle.law_recovery.proofs.Exchanged.{turned}
use Rattle.law_run_steps.proofs.Others.{frame-up, own-up}
use Rattle.law_recovery.specs.Stages.{Keys, CentreTakes, DeviceIs, HaveCome, Sends, asked_bytes, centre_seals, device_seals, heard, timed, told_bytes}
use Rattle.law_recovery.specs.Stale.{AreAnswersStale, CameFromTheCentre, IsAnswerStale, IsUnknown, after_stale_answers, answer_key, told}
use Rattle.law_recovery.specs.Stops.{IsAnswered}
use Rattle.law_recovery.specs.Turns.{Far, Asking, Offering, Proving, Proved, Done, unanswered_from}
use Rattle.law_recovery.proofs.Floors.{links_within}
use Rattle.law_recovery.proofs.Kept.{AllKept, kept_from, row_kept, tried_kept}
use Rattle.law_recovery.proofs.NetFloors.{sender_within}
use Rattle.law_recovery.proofs.LostSending.{InRange, KeysFit, device_sends}
use Rattle.law_recovery.proofs.StaleFrames.{Floors, Late, TurnedDown, late_so, next_is, no_more, turned_down}
use Rattle.law_recovery.proofs.LostTaking.{IsTold, centre_answers}
use Rattle.law_recovery.proofs.Turning.{refused_turn}

-- ---- the centre's counters after its answer

counts_by : (tools : Tools) → DeliversCommands tools → (w : Schedule) (y : Front) (c d : ℕ) (k : Keys) (far : Far)
    (t : NodeState) → HaveCome w y c d k far → InRange far (device_seals far t k)
    → CentreTakes far tools w y c d k (device_seals far t k)
    → GoesOn (state_of y.lines c)
    (after_task tools (setting_of w c) (state_of y.lines c)
    (Received (asked_bytes far tools w c d (device_seals far t k)) (supply w y.lines)))
counts_by tools delivers w y c d k Asking t h range takes =
    let f = device_seals Asking t k in
    let s = state_of y.lines c in
    subst (λ draw. GoesOn s
    (after_task tools (setting_of w c) s (Received (request_bytes tools (setting_of w c) (setting_of w d) f) draw)))
    (sym takes.0)
    (offer_counts tools delivers (setting_of w c) (setting_of w d) s f (Some k.drawn) h.met.declared h.met.stations
    range.0 range.1 h.met.centre_steady.rules h.network h.centre takes.1)
counts_by tools delivers w y c d k Offering t h range takes =
    again_counts tools delivers (setting_of w c) (setting_of w d) (state_of y.lines c) (device_seals Offering t k)
    k.drawn (supply w y.lines) h.met.declared h.met.stations range.0 range.1 h.met.centre_steady.rules h.network
    h.centre takes.0 takes.1
counts_by tools delivers w y c d k Proving t h range takes =
    confirmed_counts tools delivers (setting_of w c) (setting_of w d) (state_of y.lines c) (device_seals Proving t k)
    (supply w y.lines) h.met.declared h.met.stations range h.met.centre_steady.rules h.network h.centre takes
counts_by tools delivers w y c d k Proved t h range takes =
    confirmed_again_counts tools delivers (setting_of w c) (setting_of w d) (state_of y.lines c)
    (device_seals Proved t k) (supply w y.lines) h.met.declared h.met.stations range h.network h.centre takes
counts_by tools delivers w y c d k Done t h range takes = absurd (cc)

-- ---- the device's floors after its timer

quiet_by : (tools : Tools) (w : Schedule) (c d : ℕ) (t : NodeState) (k : Keys) (far : Far)
    → AreDeclared (setting_of w c) (setting_of w d) → DeviceIs far t (eui_of w c) k → Sends far t
    → quiet (after_task tools (setting_of w d) t DoTimer) ≡ quiet t
quiet_by tools w c d t k Asking declared j sends =
    request_quiet tools (setting_of w c) (setting_of w d) t k.network k.sequence k.link declared j
quiet_by tools w c d t k Offering declared j sends =
    request_quiet tools (setting_of w c) (setting_of w d) t k.network k.sequence k.link declared j
quiet_by tools w c d t k Proving declared j sends =
    proof_quiet tools (setting_of w c) (setting_of w d) t k.network k.sequence k.drawn declared j
quiet_by tools w c d t k Proved declared j sends =
    proof_quiet tools (setting_of w c) (setting_of w d) t k.network k.sequence k.drawn declared j
quiet_by tools w c d t k Done declared j sends = absurd (cc)

device_network : (t : NodeState) (centre : ℕ) (k : Keys) (far : Far) → DeviceIs far t centre k
    → HasNetwork t k.network k.sequence
device_network t centre k Asking j = j.network
device_network t centre k Offering j = j.network
device_network t centre k Proving j = j.network
device_network t centre k Proved j = j.network
device_network t centre k Done j = j.network

same_floors : (a b : NetKey) → Some (still_net a) ≡ Some (still_net b) → a.floors ≡ b.floors
same_floors a b e = ap (λ (r : NetKey). r.floors) (inside e)
  where
    inside : Some (still_net a) ≡ Some (still_net b) → still_net a ≡ still_net b
    inside f = cc

floors_kept : (t u : NodeState) (sender : ℕ) (key : Bytes) (sequence most : ℕ) → quiet u ≡ quiet t
    → HasNetwork t key sequence → Floors t sender key sequence most → Floors u sender key sequence most
unfolding sender_floor
floors_kept t u sender key sequence most e h f = record {
  floor = λ now.
      let rows : Some (still_net now.found) ≡ Some (still_net h.found) =
      ap (option_map still_net) (sym now.is_found) ∙ sym (usable_still u sequence)
      ∙ ap (λ s. usable_of s sequence) e ∙ usable_still t sequence ∙ ap (option_map still_net) h.is_found in
      let floors = same_floors now.found h.found rows in
      subst (λ n. n ≤ most)
      (ap (λ fs. (floor_of_sender sender (find (λ (g : SenderFloor). nat_eq g.sender sender) fs)).kept) (sym floors))
      (f.floor h);
}

-- ---- why the device refuses an answer

kept_other : (b : Bool) (o : Option LinkKey) (v : ℕ)
    → or_else (obstacle_if b RowsFull) (why_key_in_use o) ≡ Some (Stale v)
    → ⊥
kept_other true o v e = absurd (cc)
kept_other false (Some other) v e = absurd (cc)
kept_other false None v e = absurd (cc)

-- nothing is asked after the two floors
late_last : (net : NetKey) (row : LinkKey) (source nwk aps v : ℕ)
    → or_else (why_not_heard net source nwk) (why_not_opened row aps) ≡ Some (Stale v)
    → Late net row source nwk aps
late_last net row source nwk aps v e =
    late_so net row source nwk aps v None (λ f. none_stale v f)
    (ap (or_else (why_not_heard net source nwk)) (or_nothing (why_not_opened row aps)) ∙ e)
  where
    none_stale : (n : ℕ) → None ≡ Some (Stale n) → ⊥
    none_stale n f = absurd (cc)

    or_nothing : (o : Option Reason) → or_else o None ≡ o
    or_nothing None = refl
    or_nothing (Some r) = refl

offer_down : (tools : Tools) → DeliversCommands tools → OpensAsJudged tools → (c m : Setting) (t : NodeState)
    (g : Seals) (key : Bytes) (draw : Option Bytes) (floor nwk aps turns : ℕ) → 1 ≤ m.me.in_block → AreDeclared c m
    → StationsInRange c m → NwkInRange g → ApsInRange g → length key ≡ 16 → IsSteady m t
    → IsJoined t c.me.eui g.key g.sequence g.link → has_link c.me.eui key t.links ≡ false
    → (answer tools m t (Received (offer_bytes tools c m g key) draw)).refusal ≡ Some (Stale floor)
    → g.nwk ≡ nwk + turns → g.aps ≡ aps + turns → Floors t c.me.eui g.key g.sequence (nwk + (m.me.in_block - 1))
    → AllKept c.me.eui g.link (aps + (m.me.in_block - 1)) t.links
    → TurnedDown (after_task tools m t (Received (offer_bytes tools c m g key) draw)) c.me.eui g.key g.sequence g.link
    nwk aps turns m.me.in_block
offer_down tools delivers opens c m t g key draw floor nwk aps turns block d st rn ra long i j fresh e is_nwk is_aps
    floors links =
    let f : NetFrame = net_frame c m g in
    let l : LinkFrame = offer c m g key in
    let sealed : LinkFrameInRange l =
    record { link = ra.link; source = st.centre; counter = ra.counter; command = (long, st.device, st.centre) } in
    let chain = sym (not_kept t c.me.eui g key j)
    ∙ sym (keep_refused tools delivers c m t g key draw d st rn ra long i.rules j fresh) ∙ e in
    let late = late_so j.network.found j.keys.row c.me.eui g.nwk g.aps floor (why_not_kept t c.me.eui key)
    (kept_other (links_full t) (other_user t c.me.eui key) floor) chain in
    turned_down tools opens m t f l j.keys.row draw nwk aps turns block i
    (delivers.carried f l (net_range c m g st.centre_short st.device_short st.centre rn) sealed)
    (delivers.unsealed l sealed) j.network (heard_down c m t g d j.network rn.counter) late is_nwk is_aps floors links
    (row_kept t c.me.eui g.link (aps + (m.me.in_block - 1)) j.keys.row j.keys.is_current j.keys.row_key links)

confirmation_down : (tools : Tools) → DeliversCommands tools → OpensAsJudged tools → (c m : Setting) (t : NodeState)
    (g : Seals) (draw : Option Bytes) (floor nwk aps turns : ℕ) → 1 ≤ m.me.in_block → AreDeclared c m
    → StationsInRange c m → NwkInRange g → ApsInRange g → IsSteady m t
    → IsOffered t c.me.eui g.key g.sequence g.link
    → (answer tools m t (Received (confirmation_bytes tools c m g) draw)).refusal ≡ Some (Stale floor)
    → g.nwk ≡ nwk + turns → g.aps ≡ aps + turns → Floors t c.me.eui g.key g.sequence (nwk + (m.me.in_block - 1))
    → AllKept c.me.eui g.link (aps + (m.me.in_block - 1)) t.links
    → TurnedDown (after_task tools m t (Received (confirmation_bytes tools c m g) draw)) c.me.eui g.key g.sequence
    g.link nwk aps turns m.me.in_block
confirmation_down tools delivers opens c m t g draw floor nwk aps turns block d st rn ra i j e is_nwk is_aps floors
    links =
    let f : NetFrame = net_frame c m g in
    let l : LinkFrame = confirmation c m g in
    let sealed : LinkFrameInRange l =
    record {
      link = ra.link;
      source = st.centre;
      counter = ra.counter;
      command = (omega arith, omega arith, st.device);
    } in
    let chain = sym (confirm_refused tools delivers c m t g draw d st rn ra j) ∙ e in
    turned_down tools opens m t f l j.tried draw nwk aps turns block i
    (delivers.carried f l (net_range c m g st.centre_short st.device_short st.centre rn) sealed)
    (delivers.unsealed l sealed) j.network (heard_down c m t g d j.network rn.counter)
    (late_last j.network.found j.tried c.me.eui g.nwk g.aps floor chain) is_nwk is_aps floors links
    (tried_kept t c.me.eui g.link (aps + (m.me.in_block - 1)) j.tried j.tried_first j.tried_key links)

-- ---- between two turns

-- this many turns were stale, if the centre began with these counters
record Holds (w : Schedule) (x : Front) (c d : ℕ) (k : Keys) (far : Far) (nwk aps turns : ℕ) : Type 0 where
  come : HaveCome w x c d k far
  nwk_is : next_counter Nwk (state_of x.lines c) ≡ nwk + turns
  aps_is : next_counter Aps (state_of x.lines c) ≡ aps + turns
  floors : Floors (state_of x.lines d) (eui_of w c) k.network k.sequence (nwk + ((setting_of w d).me.in_block - 1))
  links : AllKept (eui_of w c) (answer_key far k) (aps + ((setting_of w d).me.in_block - 1)) (state_of x.lines d).links

-- the device refuses what the centre sealed in state s
down_by : (tools : Tools) → DeliversCommands tools → OpensAsJudged tools → (w : Schedule) (z : Front) (c d : ℕ)
    (k : Keys) (far : Far) (s : NodeState) (draw : Option Bytes) (floor nwk aps turns : ℕ) → KeysFit k
    → 1 ≤ (setting_of w d).me.in_block → HaveCome w z c d k (unanswered_from far)
    → NwkInRange (centre_seals far s k) × ApsInRange (centre_seals far s k) → IsUnknown far w z c d k → IsAnswered
    (unanswered_from far)
    → (answer tools (setting_of w d) (state_of z.lines d)
    (Received (told_bytes far tools w c d k (centre_seals far s k)) draw)).refusal ≡ Some (Stale floor)
    → next_counter Nwk s ≡ nwk + turns → next_counter Aps s ≡ aps + turns
    → Floors (state_of z.lines d) (eui_of w c) k.network k.sequence (nwk + ((setting_of w d).me.in_block - 1))
    → AllKept (eui_of w c) (answer_key far k) (aps + ((setting_of w d).me.in_block - 1)) (state_of z.lines d).links
    → TurnedDown
    (after_task tools (setting_of w d) (state_of z.lines d)
    (Received (told_bytes far tools w c d k (centre_seals far s k)) draw)) (eui_of w c) k.network k.sequence
    (answer_key far k) nwk aps turns (setting_of w d).me.in_block
down_by tools delivers opens w z c d k Asking s draw floor nwk aps turns fit block h r fresh so e is_nwk is_aps floors
    links =
    offer_down tools delivers opens (setting_of w c) (setting_of w d) (state_of z.lines d) (centre_seals Asking s k)
    k.drawn draw floor nwk aps turns block h.met.declared h.met.stations r.0 r.1 fit.drawn h.met.device_steady h.device
    fresh e is_nwk is_aps floors links
down_by tools delivers opens w z c d k Offering s draw floor nwk aps turns fit block h r fresh so e is_nwk is_aps
    floors links =
    offer_down tools delivers opens (setting_of w c) (setting_of w d) (state_of z.lines d) (centre_seals Offering s k)
    k.drawn draw floor nwk aps turns block h.met.declared h.met.stations r.0 r.1 fit.drawn h.met.device_steady h.device
    fresh e is_nwk is_aps floors links
down_by tools delivers opens w z c d k Proving s draw floor nwk aps turns fit block h r fresh so e is_nwk is_aps
    floors links =
    confirmation_down tools delivers opens (setting_of w c) (setting_of w d) (state_of z.lines d)
    (centre_seals Proving s k) draw floor nwk aps turns block h.met.declared h.met.stations r.0 r.1
    h.met.device_steady h.device e is_nwk is_aps floors links
down_by tools delivers opens w z c d k Proved s draw floor nwk aps turns fit block h r fresh so e is_nwk is_aps
    floors links =
    confirmation_down tools delivers opens (setting_of w c) (setting_of w d) (state_of z.lines d)
    (centre_seals Proved s k) draw floor nwk aps turns block h.met.declared h.met.stations r.0 r.1
    h.met.device_steady h.device e is_nwk is_aps floors links
down_by tools delivers opens w z c d k Done s draw floor nwk aps turns fit block h r fresh so e is_nwk is_aps floors
    links = absurd so

answered_then : (far : Far) (t : NodeState) → Sends far t → IsAnswered (unanswered_from far)
answered_then Asking t sends = tt
answered_then Offering t sends = tt
answered_then Proving t sends = tt
answered_then Proved t sends = tt
answered_then Done t sends = absurd (cc)

same_key_then : (far : Far) (k : Keys) → answer_key (unanswered_from far) k ≡ answer_key far k
same_key_then Asking k = refl
same_key_then Offering k = refl
same_key_then Proving k = refl
same_key_then Proved k = refl
same_key_then Done k = refl

-- ---- one turn

-- what a turn leaves of the two nodes
record Passed (tools : Tools) (w : Schedule) (x : Front) (c d : ℕ) (k : Keys) (far : Far) : Type 0 where
  offered : IsTold tools w (heard tools w x c d) c d k far (centre_seals far (state_of (timed tools w x d).lines c) k)
      (length (air x.lines) + 2)
  come : HaveCome w (told tools w x c d) c d k (unanswered_from far)
  centre_first : state_of (timed tools w x d).lines c ≡ state_of x.lines c
  goes : GoesOn (state_of (timed tools w x d).lines c) (state_of (told tools w x c d).lines c)
  still : quiet (state_of (heard tools w x c d).lines d) ≡ quiet (state_of x.lines d)
  device_then : state_of (told tools w x c d).lines d
      ≡ after_task tools (setting_of w d) (state_of (heard tools w x c d).lines d)
      (Received (told_bytes far tools w c d k (centre_seals far (state_of (timed tools w x d).lines c) k))
      (supply w (heard tools w x c d).lines))

passed : (tools : Tools) → DeliversCommands tools → OpensAsJudged tools → (w : Schedule) (x : Front) (c d : ℕ)
    (k : Keys) (far : Far) → KeysFit k → HaveCome w x c d k far → IsAnswerStale tools w x c d k far
    → Passed tools w x c d k far
passed tools delivers opens w x c d k far fit h st =
    let frames = length (air x.lines) in
    let y = timed tools w x d in
    let z = heard tools w x c d in
    let a = device_sends tools opens w x c d k far frames fit h refl st.free.0 in
    let asked = asked_bytes far tools w c d (device_seals far (state_of x.lines d) k) in
    let answer_now = told_bytes far tools w c d k (centre_seals far (state_of y.lines c) k) in
    let first = device_acts tools opens w x c d DoTimer (Own d DoTimer) h.met h.met.apart
    (own-up tools w x.lines x.disks x.number d DoTimer h.met.device_ready.up) in
    let second = centre_acts tools opens w y c d (Received asked (supply w y.lines)) (Deliver (frames + 1) c)
    a.come.met (turned d c a.come.met.apart)
    (frame-up tools w y.lines y.disks y.number (frames + 1) c asked a.come.met.centre_ready.up a.on_air.last) in
    let b = centre_answers tools delivers opens w y c d k far (state_of x.lines d) (frames + 1) fit
    (record { come = a.come; range = a.range; on_air = a.on_air }) st.free.1 in
    let same : frames + 1 + 1 ≡ frames + 2 = omega arith in
    let on_air = subst (λ n. frame_at z.lines n ≡ Some answer_now) same b.on_air.last in
    let last = device_acts tools opens w z c d (Received answer_now (supply w z.lines)) (Deliver (frames + 2) d)
    b.come.met b.come.met.apart
    (frame-up tools w z.lines z.disks z.number (frames + 2) d answer_now b.come.met.device_ready.up on_air) in
    let counts = counts_by tools delivers w y c d k far (state_of x.lines d) a.come a.range st.free.1 in
    record {
      offered = subst (IsTold tools w z c d k far (centre_seals far (state_of y.lines c) k)) same b;
      come = refused_turn tools opens w z c d k (unanswered_from far) (frames + 2) d b.come
          (record {
            one = inr refl;
            bytes = answer_now;
            on_air = on_air;
            reason = Stale st.floor;
            refused = st.refused;
          });
      centre_first = first.centre;
      goes = subst (GoesOn (state_of y.lines c)) (sym (last.centre ∙ second.centre)) counts;
      still = ap quiet (second.device ∙ first.device)
          ∙ quiet_by tools w c d (state_of x.lines d) k far h.met.declared h.device st.free.0;
      device_then = last.device;
    }

record Next (tools : Tools) (w : Schedule) (x : Front) (c d : ℕ) (k : Keys) (far : Far) (nwk aps turns : ℕ) : Type 0
  where
    less : turns + 1 < (setting_of w d).me.in_block
    holds : Holds w (told tools w x c d) c d k (unanswered_from far) nwk aps (turns + 1)

one_turn : (tools : Tools) → DeliversCommands tools → OpensAsJudged tools → (w : Schedule) (x : Front) (c d : ℕ)
    (k : Keys) (far : Far) (nwk aps turns : ℕ) → KeysFit k → 1 ≤ (setting_of w d).me.in_block
    → Holds w x c d k far nwk aps turns → IsAnswerStale tools w x c d k far → Next tools w x c d k far nwk aps turns
one_turn tools delivers opens w x c d k far nwk aps turns fit block b st =
    let h = b.come in
    let t = state_of x.lines d in
    let y = timed tools w x d in
    let z = heard tools w x c d in
    let s = state_of y.lines c in
    let u = state_of (told tools w x c d).lines c in
    let centre = eui_of w c in
    let top = (setting_of w d).me.in_block - 1 in
    let p = passed tools delivers opens w x c d k far fit h st in
    let is_nwk : next_counter Nwk s ≡ nwk + turns = ap (next_counter Nwk) p.centre_first ∙ b.nwk_is in
    let is_aps : next_counter Aps s ≡ aps + turns = ap (next_counter Aps) p.centre_first ∙ b.aps_is in
    let r = down_by tools delivers opens w z c d k far s (supply w z.lines) st.floor nwk aps turns fit block
    p.offered.come p.offered.range st.unknown (answered_then far t st.free.0) st.refused is_nwk is_aps
    (floors_kept t (state_of z.lines d) centre k.network k.sequence (nwk + top) p.still
    (device_network t centre k far h.device) b.floors)
    (subst (AllKept centre (answer_key far k) (aps + top))
    (sym (links_kept t (state_of z.lines d) p.still)) b.links) in
    record {
      less = r.less;
      holds = record {
        come = p.come;
        nwk_is = next_is (next_counter Nwk s) (next_counter Nwk u) nwk turns p.goes.nwk is_nwk;
        aps_is = next_is (next_counter Aps s) (next_counter Aps u) aps turns p.goes.aps is_aps;
        floors = subst (λ v. Floors v centre k.network k.sequence (nwk + top)) (sym p.device_then) r.floors;
        links = subst (λ key. AllKept centre key (aps + top) (state_of (told tools w x c d).lines d).links)
            (sym (same_key_then far k))
            (subst (λ (v : NodeState). AllKept centre (answer_key far k) (aps + top) v.links) (sym p.device_then)
            r.links);
      };
    }

-- ---- all of them

all_less : (tools : Tools) → DeliversCommands tools → OpensAsJudged tools → (w : Schedule) (c d : ℕ) (k : Keys)
    (far : Far) (nwk aps n turns : ℕ) (x : Front) → KeysFit k → 1 ≤ (setting_of w d).me.in_block
    → Holds w x c d k far nwk aps turns → turns < (setting_of w d).me.in_block
    → AreAnswersStale tools w c d k far n x → turns + n < (setting_of w d).me.in_block
all_less tools delivers opens w c d k far nwk aps zero turns x fit block b less all = omega (arith, less)
all_less tools delivers opens w c d k far nwk aps (suc n) turns x fit block b less all =
    let next = one_turn tools delivers opens w x c d k far nwk aps turns fit block b all.0 in
    let more = all_less tools delivers opens w c d k (unanswered_from far) nwk aps n (turns + 1) (told tools w x c d)
    fit block next.holds next.less all.1 in
    omega (arith, more)

pub stale_answers_are_fewer : (tools : Tools) → DeliversCommands tools → OpensAsJudged tools → (w : Schedule)
    (c d : ℕ) (k : Keys) (far : Far) (n : ℕ) (x : Front) → KeysFit k → 1 ≤ (setting_of w d).me.in_block
    → HaveCome w x c d k far → CameFromTheCentre far w x c d k → AreAnswersStale tools w c d k far n x
    → n < (setting_of w d).me.in_block
stale_answers_are_fewer tools delivers opens w c d k far n x fit block h came all =
    let nwk = next_counter Nwk (state_of x.lines c) in
    let aps = next_counter Aps (state_of x.lines c) in
    let begins : Holds w x c d k far nwk aps 0 = record {
      come = h;
      nwk_is = no_more nwk;
      aps_is = no_more aps;
      floors = record { floor = λ now. sender_within w x c d k.network k.sequence now came.0 };
      links = kept_from (eui_of w c) (answer_key far k) (aps + ((setting_of w d).me.in_block - 1))
          (state_of x.lines d).links (links_within w x c d (answer_key far k) came.1);
    } in
    let less = all_less tools delivers opens w c d k far nwk aps n 0 x fit block begins block all in
    omega (arith, less)

-- if the centre answered before, the two stay at their stage
still_far : (far : Far) → IsAnswered far → unanswered_from far ≡ far
still_far Asking answered = absurd answered
still_far Offering answered = refl
still_far Proving answered = absurd answered
still_far Proved answered = refl
still_far Done answered = absurd answered

pub stays_answered : (tools : Tools) → DeliversCommands tools → OpensAsJudged tools → (w : Schedule) (c d : ℕ)
    (k : Keys) (far : Far) (n : ℕ) (x : Front) → KeysFit k → HaveCome w x c d k far → IsAnswered far
    → AreAnswersStale tools w c d k far n x → HaveCome w (after_stale_answers tools w c d n x) c d k far
stays_answered tools delivers opens w c d k far zero x fit h answered all = h
stays_answered tools delivers opens w c d k far (suc n) x fit h answered all =
    let same = still_far far answered in
    let y = told tools w x c d in
    stays_answered tools delivers opens w c d k far n y fit
    (subst (HaveCome w y c d k) same (passed tools delivers opens w x c d k far fit h all.0).come) answered
    (subst (λ z. AreAnswersStale tools w c d k z n y) same all.1)
