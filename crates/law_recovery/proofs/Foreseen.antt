-- The obstacles of the exchange's later events are known at the first front, because the counters and floors after
-- the first events are known.
use Rattle.std.proofs.Common.{◌≡◌, ℕ, ◌+◌, ◌<◌, ◌≤◌, Bool, true, false, not, ◌&&◌, if◌then◌else◌, List, [], ◌∷◌, filter, find, length, reverse, Option, Some, None, is_some, nat_eq, nat_lt, nat_le, refl, sym, ap, ◌∙◌, subst, arith}
use Rattle.std.specs.List.{list_all}
use Rattle.std.proofs.lemmas.Bool.{false≢true, le-ltb, leb-true, lt-leb}
use Rattle.zb_model.specs.Answer.{answer}
use Rattle.zb_model.specs.Data.{Bytes, Role, Nwk, Aps, CounterSpent, Reason, Stale, Task, DoTimer, Received}
use Rattle.zb_model.specs.Fits.{keeps_rules, most_senders}
use Rattle.zb_model.specs.Play.{Schedule, Own, Deliver, setting_of, supply}
use Rattle.zb_model.specs.Readings.{air, state_of}
use Rattle.zb_model.specs.Rules.{spent, both_spent}
use Rattle.zb_model.specs.State.{SenderFloor, NetKey, LinkKey, NodeState, floor_of_sender, greatest_counter, has_link, is_live_of, next_counter, current, other_user, sender_floor}
use Rattle.zb_model.specs.Tools.{Tools}
use Rattle.law_answer_storable.specs.Storing.{OpensAsJudged}
use Rattle.law_change_fits.proofs.Parts.{floors_rule, rules_of}
use Rattle.law_change_fits.proofs.Tests.{both, filter_shorter}
use Rattle.law_recovery.specs.CommandFrames.{DeliversCommands, IsCarried, sealed_content}
use Rattle.law_recovery.specs.Exchanging.{Seals, net_frame, offer, offer_bytes, request, request_bytes, seals_now}
use Rattle.law_recovery.specs.Meeting.{HasNetwork, IsSteady}
use Rattle.law_recovery.specs.Obstacles.{in_row, or_else, obstacle_if, why_no_confirmation, why_no_offer, why_no_proof, why_not_confirmed, why_not_heard, why_not_kept, why_not_offered, why_not_opened, why_not_sealed, why_offer_not_kept, why_unheard}
use Rattle.law_recovery.proofs.Counting.{GoesOn, KeepsOn, keep_counts, offer_counts, request_counts, request_edits, request_quiet}
use Rattle.law_recovery.proofs.Judged.{or_first}
use Rattle.law_recovery.proofs.Laws.{found_net}
use Rattle.law_recovery.proofs.Offering.{heard_down}
use Rattle.law_recovery.proofs.Proving.{proof_quiet}
use Rattle.law_recovery.proofs.Quiet.{links_kept, quiet, role_kept, unheard_left}
use Rattle.law_recovery.proofs.Requesting.{heard_up, net_range}
use Rattle.law_recovery.specs.Answering.{after_task}
use Rattle.law_recovery.specs.Fronts.{Front}
use Rattle.law_recovery.specs.KeyExchange.{NothingStops, eui_of, front_after}
use Rattle.law_recovery.proofs.Confirmed.{centre_acts, device_acts}
use Rattle.law_recovery.proofs.Exchanged.{left-by, turned}
use Rattle.law_run_steps.proofs.Others.{frame-up, own-up}
use Rattle.law_recovery.specs.Foreseen.{IsForeseen}
use Rattle.law_recovery.specs.Stages.{HaveCome, Keys, centre_seals, device_seals}
use Rattle.law_recovery.specs.Turns.{Asking, Proving}
use Rattle.law_recovery.specs.Twice.{Hears}
use Rattle.law_recovery.proofs.Drawing.{supply_left}
use Rattle.law_recovery.proofs.LostSending.{KeysFit, device_sends}
use Rattle.law_recovery.proofs.LostTaking.{IsAsked, IsTold, centre_answers, device_ends}
use Rattle.law_recovery.proofs.Twice.{AtKey, KeptAt, StandsOver, floor_over, found_row, heard_frame, key_test}

-- ---- counters that aren't at their end

not_spent_nwk : (s : NodeState) (n : ℕ) → next_counter Nwk s ≡ n → n < greatest_counter → spent Nwk s ≡ false
unfolding spent
not_spent_nwk s n e lt = ap (nat_le greatest_counter) e ∙ lt-leb greatest_counter n lt

not_spent_aps : (s : NodeState) (n : ℕ) → next_counter Aps s ≡ n → n < greatest_counter → spent Aps s ≡ false
unfolding spent
not_spent_aps s n e lt = ap (nat_le greatest_counter) e ∙ lt-leb greatest_counter n lt

sealed_free : (s : NodeState) → spent Nwk s ≡ false → spent Aps s ≡ false → why_not_sealed s ≡ None
unfolding both_spent
sealed_free s e f = rw (e, f) refl

proof_free : (s : NodeState) → spent Nwk s ≡ false → why_no_proof s ≡ None
proof_free s e = ap (λ b. obstacle_if b CounterSpent) e

-- ---- an accepted sender has room, and its next frame isn't stale

fewer_others : (source : ℕ) (fs : List SenderFloor) → is_some (find (λ (f : SenderFloor). nat_eq f.sender source) fs)
    ≡ true → length (filter (λ (f : SenderFloor). not (nat_eq f.sender source)) fs) + 1 ≤ length fs
fewer_others source [] h = absurd (false≢true h)
fewer_others source (f ∷ fs) h = by_test (nat_eq f.sender source) h (λ g. fewer_others source fs g)
  where
    shorter : (gs : List SenderFloor) → length (filter (λ (g : SenderFloor). not (nat_eq g.sender source)) gs)
        ≤ length gs
    shorter gs = filter_shorter (λ (g : SenderFloor). not (nat_eq g.sender source))
        gs

    by_test : (b : Bool) → is_some (if b then Some f else find (λ (g : SenderFloor). nat_eq g.sender source) fs) ≡ true
        → (is_some (find (λ (g : SenderFloor). nat_eq g.sender source) fs) ≡ true
        → length (filter (λ (g : SenderFloor). not (nat_eq g.sender source)) fs) + 1 ≤ length fs)
        → length (if not b then f ∷ filter (λ (g : SenderFloor). not (nat_eq g.sender source)) fs
        else filter (λ (g : SenderFloor). not (nat_eq g.sender source)) fs) + 1 ≤ length (f ∷ fs)
    by_test true e later = omega (arith, shorter fs)
    by_test false e later = omega (arith, later e)

some_floor : (source kept : ℕ) (o : Option SenderFloor) → (floor_of_sender source o).kept ≡ kept + 1 → is_some o
    ≡ true
some_floor source kept None e = absurd (omega (arith, e))
some_floor source kept (Some f) e = refl

no_both : (a b : Bool) → b ≡ false → (a && b) ≡ false
no_both true b e = e
no_both false b e = refl

all_rows : (p : NetKey → Bool) (rs : List NetKey) (r : NetKey) (q : NetKey → Bool) → list_all p rs ≡ true
    → find q rs ≡ Some r → p r ≡ true
all_rows p [] r q all e = absurd cc
all_rows p (x ∷ rs) r q all e =
    let parts = both (p x) (list_all p rs) all in
    by_test (q x) e parts.0 (λ f. all_rows p rs r q parts.1 f)
  where
    by_test : (b : Bool) → (if b then Some x else find q rs) ≡ Some r → p x ≡ true → (find q rs ≡ Some r → p r ≡ true)
        → p r ≡ true
    by_test true f here later = subst (λ y. p y ≡ true) (same f) here
      where
        same : Some x ≡ Some r → x ≡ r
        same g = cc
    by_test false f here later = later f

next_heard : (u : NodeState) (source counter : ℕ) (k : Seals) → keeps_rules u ≡ true
    → (h : HasNetwork u k.key k.sequence) → AtKey (KeptAt source (counter + 1)) k.key u.nets → k.nwk ≡ counter + 1
    → why_unheard u source k ≡ None
unfolding why_not_heard sender_floor
next_heard u source counter k rules h a e =
    let kept = floor_over u k.key k.sequence source (counter + 1) rules h a in
    let same = found_row u k.key k.sequence (KeptAt source (counter + 1)) rules h a in
    let some = some_floor source counter (find (λ (f : SenderFloor). nat_eq f.sender source) a.row.floors) a.has in
    let long : length a.row.floors ≤ most_senders =
    leb-true (length a.row.floors) most_senders
    (both (nat_le (length a.row.floors) most_senders) _
    (all_rows floors_rule u.nets a.row (key_test k.key) (rules_of u rules).floors
    a.found)).0 in
    let few : nat_le most_senders
    (length (filter (λ (f : SenderFloor). not (nat_eq f.sender source)) h.found.floors)) ≡ false =
    ap (λ (r : NetKey). nat_le most_senders
    (length (filter (λ (f : SenderFloor). not (nat_eq f.sender source)) r.floors))) same
    ∙ lt-leb most_senders (length (filter (λ (f : SenderFloor). not (nat_eq f.sender source)) a.row.floors))
    (omega (arith, long, fewer_others source a.row.floors some)) in
    let fresh : nat_lt k.nwk (sender_floor source h.found).kept ≡ false =
    le-ltb k.nwk (sender_floor source h.found).kept (omega (arith, kept, e)) in
    found_net u k source h.found h.is_found
    ∙ rw (fresh, no_both (nat_le (sender_floor source h.found).stored k.nwk) _ few) refl

-- ---- what the device's timer leaves of an offer's obstacles

abbrev rest_of : NodeState → ℕ → Seals → Bytes → Option Reason
rest_of s centre k key =
    or_else (in_row (current s centre) (λ row. why_not_opened row k.aps)) (why_not_kept s centre key)

rest_left : (t u : NodeState) (centre : ℕ) (k : Seals) (key : Bytes) → u.links ≡ t.links → u.role ≡ t.role
    → rest_of u centre k key ≡ rest_of t centre k key
unfolding current other_user
rest_left t u centre k key links role =
    ap (λ (l : List LinkKey). rest_of (record u { links = l }) centre k key) links
    ∙ ap (λ (r : Role). rest_of (record (record u { links = t.links }) { role = r }) centre k key) role

offer_left : (t u : NodeState) (centre : ℕ) (k : Seals) (key : Bytes) → quiet u ≡ quiet t
    → why_offer_not_kept u centre k key ≡ why_offer_not_kept t centre k key
unfolding why_offer_not_kept
offer_left t u centre k key e =
    ap (λ o. or_else o (rest_of u centre k key)) (unheard_left t u centre k e)
    ∙ ap (or_else (why_unheard t centre k)) (rest_left t u centre k key (links_kept t u e) (role_kept t u e))

-- ---- the first three events

abbrev task_2 : Tools → Schedule → Front → ℕ → ℕ → Keys → Task
task_2 tools w x c d k =
    Received (request_bytes tools (setting_of w c) (setting_of w d) (device_seals Asking (state_of x.lines d) k))
    (supply w (front_after tools w x c d 1).lines)

abbrev task_3 : Tools → Schedule → Front → ℕ → ℕ → Keys → Task
task_3 tools w x c d k =
    Received
    (offer_bytes tools (setting_of w c) (setting_of w d)
    (centre_seals Asking (state_of (front_after tools w x c d 1).lines c) k) k.drawn)
    (supply w (front_after tools w x c d 2).lines)

-- what is known after the timer, the centre's answer, and the offer
record Begun (tools : Tools) (w : Schedule) (x : Front) (c d : ℕ) (k : Keys) : Type 0 where
  first_centre : state_of (front_after tools w x c d 1).lines c ≡ state_of x.lines c
  first_device : state_of (front_after tools w x c d 1).lines d
      ≡ after_task tools (setting_of w d) (state_of x.lines d) DoTimer
  first_steady : IsSteady (setting_of w c) (state_of (front_after tools w x c d 1).lines c)
  first_network : HasNetwork (state_of (front_after tools w x c d 1).lines c) k.network k.sequence
  draw : supply w (front_after tools w x c d 1).lines ≡ Some k.drawn
  offer : why_no_offer (state_of (front_after tools w x c d 1).lines c) (eui_of w d)
      (device_seals Asking (state_of x.lines d) k) (Some k.drawn) ≡ None
  second_centre : state_of (front_after tools w x c d 2).lines c
      ≡ after_task tools (setting_of w c) (state_of (front_after tools w x c d 1).lines c) (task_2 tools w x c d k)
  second_device : state_of (front_after tools w x c d 2).lines d ≡ state_of (front_after tools w x c d 1).lines d
  told : IsTold tools w (front_after tools w x c d 2) c d k Asking
      (centre_seals Asking (state_of (front_after tools w x c d 1).lines c) k) (length (air x.lines) + 2)
  counts : GoesOn (state_of (front_after tools w x c d 1).lines c) (state_of (front_after tools w x c d 2).lines c)
  fresh : has_link (eui_of w c) k.drawn (state_of (front_after tools w x c d 2).lines d).links ≡ false
  kept : why_offer_not_kept (state_of (front_after tools w x c d 2).lines d) (eui_of w c)
      (centre_seals Asking (state_of (front_after tools w x c d 1).lines c) k) k.drawn ≡ None
  asked : IsAsked tools w (front_after tools w x c d 1) c d k Asking (device_seals Asking (state_of x.lines d) k)
      (length (air x.lines) + 1)

begun : (tools : Tools) → DeliversCommands tools → OpensAsJudged tools → (w : Schedule) (x : Front) (c d : ℕ)
    (k : Keys) → KeysFit k → HaveCome w x c d k Asking
    → IsForeseen w x c d k.network k.sequence k.link k.drawn → Begun tools w x c d k
begun tools delivers opens w x c d k fit h f =
    let cs = setting_of w c in
    let m = setting_of w d in
    let s = state_of x.lines c in
    let t = state_of x.lines d in
    let frames = length (air x.lines) in
    let y = front_after tools w x c d 1 in
    let z = front_after tools w x c d 2 in
    let first = device_acts tools opens w x c d DoTimer (Own d DoTimer) h.met h.met.apart
    (own-up tools w x.lines x.disks x.number d DoTimer h.met.device_ready.up) in
    let same : quiet (state_of y.lines d) ≡ quiet t =
    ap quiet first.device ∙ request_quiet tools cs m t k.network k.sequence k.link h.met.declared h.device in
    let a = device_sends tools opens w x c d k Asking frames fit h refl f.request in
    let draw : supply w y.lines ≡ Some k.drawn =
    supply_left tools w x d (answer tools m t DoTimer) (Own d DoTimer) h.met.device_ready
    (own-up tools w x.lines x.disks x.number d DoTimer h.met.device_ready.up)
    (request_edits tools cs m t k.network k.sequence k.link h.met.declared h.device) ∙ f.draw in
    let offer_now : why_no_offer (state_of y.lines c) (eui_of w d) (device_seals Asking t k) (Some k.drawn) ≡ None =
    ap (λ q. why_no_offer q (eui_of w d) (device_seals Asking t k) (Some k.drawn)) first.centre ∙ f.offer in
    let asked : IsAsked tools w y c d k Asking (device_seals Asking t k) (frames + 1) =
    record { come = a.come; range = a.range; on_air = a.on_air } in
    let b = centre_answers tools delivers opens w y c d k Asking t (frames + 1) fit asked (draw, offer_now) in
    let two : frames + 1 + 1 ≡ frames + 2 = omega arith in
    let bytes = request_bytes tools cs m (device_seals Asking t k) in
    let second = centre_acts tools opens w y c d (task_2 tools w x c d k) (Deliver (frames + 1) c) first.met
    (turned d c first.met.apart)
    (frame-up tools w y.lines y.disks y.number (frames + 1) c bytes first.met.centre_ready.up a.on_air.last) in
    let u = state_of z.lines d in
    let still : quiet u ≡ quiet t = ap quiet second.device ∙ same in
    let k2 = centre_seals Asking (state_of y.lines c) k in
    record {
      first_centre = first.centre;
      first_device = first.device;
      first_steady = first.met.centre_steady;
      first_network = a.come.network;
      draw = draw;
      offer = offer_now;
      second_centre = second.centre;
      second_device = second.device;
      told = subst (IsTold tools w z c d k Asking k2) two b;
      counts = subst (GoesOn (state_of y.lines c)) (sym second.centre)
          (subst (λ o. GoesOn (state_of y.lines c) (after_task tools cs (state_of y.lines c) (Received bytes o)))
          (sym draw)
          (offer_counts tools delivers cs m (state_of y.lines c) (device_seals Asking t k) (Some k.drawn)
          h.met.declared h.met.stations a.range.0 a.range.1 first.met.centre_steady.rules a.come.network
          a.come.centre offer_now));
      fresh = ap (has_link (eui_of w c) k.drawn) (links_kept t u still) ∙ f.fresh;
      kept = offer_left t u (eui_of w c) k2 k.drawn still
          ∙ ap (λ q. why_offer_not_kept t (eui_of w c) (centre_seals Asking q k) k.drawn) first.centre ∙ f.kept;
      asked = asked;
    }

-- ---- a frame of each was accepted

request_heard : (tools : Tools) → DeliversCommands tools → OpensAsJudged tools → (w : Schedule) (x : Front) (c d : ℕ)
    (k : Keys) → Begun tools w x c d k
    → StandsOver (net_frame (setting_of w d) (setting_of w c) (device_seals Asking (state_of x.lines d) k))
    (state_of (front_after tools w x c d 2).lines c)
unfolding why_no_offer
request_heard tools delivers opens w x c d k b =
    let cs = setting_of w c in
    let m = setting_of w d in
    let f = device_seals Asking (state_of x.lines d) k in
    let a = b.asked in
    let h = a.come in
    let s = state_of (front_after tools w x c d 1).lines c in
    let st = h.met.stations in
    let up = heard_up cs m s f h.centre.row h.met.declared h.network h.centre.is_current a.range.0.counter in
    let hears : Hears cs s (net_frame m cs f) = record {
      to = up.to;
      apart = up.apart;
      small = up.small;
      declared = up.declared;
      member = up.member;
      network = h.network;
      free = or_first (why_unheard s (eui_of w d) f)
          (or_else (in_row (current s (eui_of w d)) (λ row. why_not_opened row f.aps))
          (why_not_offered s (Some k.drawn))) b.offer;
    } in
    let carried : IsCarried tools (net_frame m cs f) (sealed_content tools (request m f)) =
    delivers.carried (net_frame m cs f) (request m f)
    (net_range m cs f st.device_short st.centre_short st.device a.range.0)
    (record { link = a.range.1.link; source = st.device; counter = a.range.1.counter; command = tt }) in
    subst (StandsOver (net_frame m cs f)) (sym b.second_centre)
    (heard_frame tools opens cs s (net_frame m cs f) (sealed_content tools (request m f))
    (supply w (front_after tools w x c d 1).lines) carried hears)

-- what is known after the offer was kept
record Held (tools : Tools) (w : Schedule) (x : Front) (c d : ℕ) (k : Keys) : Type 0 where
  come : HaveCome w (front_after tools w x c d 3) c d k Proving
  centre : state_of (front_after tools w x c d 3).lines c ≡ state_of (front_after tools w x c d 2).lines c
  keeps : KeepsOn (state_of (front_after tools w x c d 2).lines d) (state_of (front_after tools w x c d 3).lines d)
      (eui_of w c) (next_counter Aps (state_of (front_after tools w x c d 1).lines c) + 1)
  over : StandsOver
      (net_frame (setting_of w c) (setting_of w d)
      (centre_seals Asking (state_of (front_after tools w x c d 1).lines c) k))
      (state_of (front_after tools w x c d 3).lines d)

held : (tools : Tools) → DeliversCommands tools → OpensAsJudged tools → (w : Schedule) (x : Front) (c d : ℕ)
    (k : Keys) → KeysFit k → Begun tools w x c d k → Held tools w x c d k
unfolding why_offer_not_kept
held tools delivers opens w x c d k fit b =
    let cs = setting_of w c in
    let m = setting_of w d in
    let frames = length (air x.lines) in
    let z = front_after tools w x c d 2 in
    let v = front_after tools w x c d 3 in
    let s = state_of (front_after tools w x c d 1).lines c in
    let f = centre_seals Asking s k in
    let h = b.told.come in
    let u = state_of z.lines d in
    let st = h.met.stations in
    let bytes = offer_bytes tools cs m f k.drawn in
    let task = task_3 tools w x c d k in
    let third = device_acts tools opens w z c d task (Deliver (frames + 2) d) h.met h.met.apart
    (frame-up tools w z.lines z.disks z.number (frames + 2) d bytes h.met.device_ready.up b.told.on_air.last) in
    let down = heard_down cs m u f h.met.declared h.device.network b.told.range.0.counter in
    let hears : Hears m u (net_frame cs m f) = record {
      to = down.to;
      apart = down.apart;
      small = down.small;
      declared = down.declared;
      member = down.member;
      network = h.device.network;
      free = or_first (why_unheard u (eui_of w c) f) (rest_of u (eui_of w c) f k.drawn) b.kept;
    } in
    let carried : IsCarried tools (net_frame cs m f) (sealed_content tools (offer cs m f k.drawn)) =
    delivers.carried (net_frame cs m f) (offer cs m f k.drawn)
    (net_range cs m f st.centre_short st.device_short st.centre b.told.range.0)
    (record {
      link = b.told.range.1.link;
      source = st.centre;
      counter = b.told.range.1.counter;
      command = (fit.drawn, st.device, st.centre);
    }) in
    record {
      come = device_ends tools delivers opens w z c d k Asking s (frames + 2) fit b.told (b.fresh, b.kept);
      centre = third.centre;
      keeps = subst (λ q. KeepsOn u q (eui_of w c) (next_counter Aps s + 1)) (sym third.device)
          (keep_counts tools delivers cs m u f k.drawn (supply w z.lines) h.met.declared st b.told.range.0
          b.told.range.1 fit.drawn h.met.device_steady.rules h.device b.fresh b.kept);
      over = subst (StandsOver (net_frame cs m f)) (sym third.device)
          (heard_frame tools opens m u (net_frame cs m f) (sealed_content tools (offer cs m f k.drawn))
          (supply w z.lines) carried hears);
    }

-- ---- the last three events

stale_free : (counter : ℕ) (row : LinkKey) → row.kept ≤ counter → why_not_opened row counter ≡ None
unfolding why_not_opened
stale_free counter row le = ap (λ b. obstacle_if b (Stale row.kept)) (le-ltb counter row.kept le)

both_none : (a b : Option Reason) → a ≡ None → b ≡ None → or_else a b ≡ None
both_none a b e f = ap (λ o. or_else o b) e ∙ f

confirmation_free : (s : NodeState) (device : ℕ) (k : Seals) → why_unheard s device k ≡ None → why_not_sealed s ≡ None
    → why_no_confirmation s device k ≡ None
unfolding why_no_confirmation
confirmation_free s device k e f = both_none (why_unheard s device k) (why_not_sealed s) e f

confirmed_free : (t : NodeState) (centre : ℕ) (k : Seals) (row : LinkKey) → why_unheard t centre k ≡ None
    → find (is_live_of centre) (reverse t.links) ≡ Some row → row.kept ≤ k.aps → why_not_confirmed t centre k ≡ None
unfolding why_not_confirmed
confirmed_free t centre k row e first low =
    both_none (why_unheard t centre k)
    (in_row (find (is_live_of centre) (reverse t.links)) (λ r. why_not_opened r k.aps)) e
    (ap (λ o. in_row o (λ r. why_not_opened r k.aps)) first ∙ stale_free k.aps row low)

pub foreseen : (tools : Tools) → DeliversCommands tools → OpensAsJudged tools → (w : Schedule) (x : Front) (c d : ℕ)
    (k : Keys) → KeysFit k → HaveCome w x c d k Asking → IsForeseen w x c d k.network k.sequence k.link k.drawn
    → NothingStops tools w x c d k.network k.sequence k.link k.drawn
foreseen tools delivers opens w x c d k fit h f =
    let cs = setting_of w c in
    let m = setting_of w d in
    let s = state_of x.lines c in
    let t = state_of x.lines d in
    let b = begun tools delivers opens w x c d k fit h f in
    let g = held tools delivers opens w x c d k fit b in
    let x3 = front_after tools w x c d 3 in
    let x4 = front_after tools w x c d 4 in
    let x5 = front_after tools w x c d 5 in
    let frames = length (air x.lines) in
    let timer = request_counts tools cs m t k.network k.sequence k.link h.met.declared h.device f.request in
    let t3 = state_of x3.lines d in
    let nwk3 : next_counter Nwk t3 ≡ next_counter Nwk t + 1 =
    g.keeps.nwk ∙ ap (next_counter Nwk) (b.second_device ∙ b.first_device) ∙ timer.nwk in
    let proof : why_no_proof t3 ≡ None =
    proof_free t3 (not_spent_nwk t3 (next_counter Nwk t + 1) nwk3 f.device_nwk) in
    let fourth = device_acts tools opens w x3 c d DoTimer (Own d DoTimer) g.come.met g.come.met.apart
    (own-up tools w x3.lines x3.disks x3.number d DoTimer g.come.met.device_ready.up) in
    let s2 = state_of (front_after tools w x c d 2).lines c in
    let at : state_of x4.lines c ≡ s2 = fourth.centre ∙ g.centre in
    let nwk2 : next_counter Nwk s2 ≡ next_counter Nwk s + 1 =
    b.counts.nwk ∙ ap (λ q. next_counter Nwk q + 1) b.first_centre in
    let aps2 : next_counter Aps s2 ≡ next_counter Aps s + 1 =
    b.counts.aps ∙ ap (λ q. next_counter Aps q + 1) b.first_centre in
    let k3 = seals_now t3 k.network k.sequence k.drawn in
    let heard : why_unheard s2 (eui_of w d) k3 ≡ None =
    next_heard s2 (eui_of w d) (next_counter Nwk t) k3 b.told.come.met.centre_steady.rules b.told.come.network
    (request_heard tools delivers opens w x c d k b) nwk3 in
    let sealed : why_not_sealed s2 ≡ None =
    sealed_free s2 (not_spent_nwk s2 (next_counter Nwk s + 1) nwk2 f.centre_nwk)
    (not_spent_aps s2 (next_counter Aps s + 1) aps2 f.centre_aps) in
    let confirmation : why_no_confirmation (state_of x4.lines c) (eui_of w d) k3 ≡ None =
    ap (λ q. why_no_confirmation q (eui_of w d) k3) at ∙ confirmation_free s2 (eui_of w d) k3 heard sealed in
    let still : quiet (state_of x4.lines d) ≡ quiet t3 =
    ap quiet fourth.device ∙ proof_quiet tools cs m t3 k.network k.sequence k.drawn g.come.met.declared g.come.device
    in
    let k4 = seals_now s2 k.network k.sequence k.drawn in
    let first_nwk : next_counter Nwk s2 ≡ next_counter Nwk (state_of (front_after tools w x c d 1).lines c) + 1 =
    b.counts.nwk in
    let told : why_unheard t3 (eui_of w c) k4 ≡ None =
    next_heard t3 (eui_of w c) (next_counter Nwk (state_of (front_after tools w x c d 1).lines c)) k4
    g.come.met.device_steady.rules g.come.device.network g.over first_nwk in
    let t4 = state_of x4.lines d in
    let confirmed_4 : why_not_confirmed t4 (eui_of w c) k4 ≡ None =
    confirmed_free t4 (eui_of w c) k4 g.come.device.tried
    (unheard_left t3 t4 (eui_of w c) k4 still ∙ told)
    (ap (λ l. find (is_live_of (eui_of w c)) (reverse l)) (links_kept t3 t4 still) ∙ g.come.device.tried_first)
    (subst (λ n. g.come.device.tried.kept ≤ n) (sym b.counts.aps)
    (g.keeps.low g.come.device.tried g.come.device.tried_first)) in
    let rest = left-by tools w x4 d (Deliver (frames + 3) c) (turned d c h.met.apart) in
    let last : why_not_confirmed (state_of x5.lines d) (eui_of w c)
    (seals_now (state_of x4.lines c) k.network k.sequence k.drawn) ≡ None =
    ap (λ q. why_not_confirmed q (eui_of w c) (seals_now (state_of x4.lines c) k.network k.sequence k.drawn))
    rest.state
    ∙ ap (λ q. why_not_confirmed t4 (eui_of w c) (seals_now q k.network k.sequence k.drawn)) at ∙ confirmed_4 in
    record {
      request = f.request;
      draw = b.draw;
      offer = b.offer;
      fresh = b.fresh;
      kept = b.kept;
      proof = proof;
      confirmation = confirmation;
      confirmed = last;
    }
