-- Turns whose frames the centre refuses as stale: each uses a counter of the device, and leaves the centre's floors
-- within a block of the device's first counter. So they are fewer than the block.
use Rattle.std.proofs.Common.{◌≡◌, ℕ, zero, suc, ◌+◌, ◌-◌, ◌<◌, inl, Bool, true, false, [], ◌∷◌, length, Option, Some, None, nat_lt, refl, sym, ap, ◌∙◌, subst, arith}
use Rattle.std.specs.Prelude.{is_none}
use Rattle.std.proofs.lemmas.Bool.{ltb-true}
use Rattle.zb_model.specs.Answer.{Counting, accepted_all, sealed_all, comes_to, may_seal, out_of, part_of, answer_by, counting_of, answer, answered}
use Rattle.zb_model.specs.Data.{Bytes, AtEvent, Nwk, Aps, Offered, Reason, Stale, RowsFull, NoDraw, CounterSpent, Command, Term, VerifyKey, DoTimer, Received}
use Rattle.zb_model.specs.Frames.{clear_command, low_byte, nwk_term, secured_frame}
use Rattle.zb_model.specs.Judging.{senders_full}
use Rattle.zb_model.specs.OwnEvents.{member_timer, verify_key}
use Rattle.zb_model.specs.Play.{Schedule, Deliver, Own, setting_of, supply}
use Rattle.zb_model.specs.Readings.{air, state_of}
use Rattle.zb_model.specs.Rules.{Setting, Clear, Does, Outcome, centre_of, found_or, links_full, sends, spent, both_spent, refuse_if, unless_held}
use Rattle.zb_model.specs.State.{NetKey, LinkKey, NodeState, active_row, applied_all, at_net, current, may_use, next_at, next_counter, offered, sender_floor, after_sealing, usable_active, usable_of}
use Rattle.zb_model.specs.Tools.{Tools, verify_hash}
use Rattle.law_answer_storable.specs.Storing.{OpensAsJudged}
use Rattle.law_recovery.specs.CommandFrames.{DeliversCommands, IsCarried, IsUnsealed, sealed_content, clear_content}
use Rattle.law_recovery.specs.Exchanging.{Seals, ApsInRange, NwkInRange, StationsInRange, net_frame, proof_bytes, request, request_bytes, seals_now}
use Rattle.law_recovery.specs.Meeting.{AreDeclared, HasBoth, HasNetwork, IsOffered, IsSteady}
use Rattle.law_recovery.specs.Obstacles.{in_row, or_else, obstacle_if, why_no_offer_again, why_no_proof, why_not_heard, why_not_offered, why_not_opened, why_not_sealed}
use Rattle.law_recovery.proofs.Again.{again_refused, confirm_again_refused}
use Rattle.law_recovery.proofs.Calm.{sealed_next}
use Rattle.law_recovery.proofs.Counting.{GoesOn, request_counts}
use Rattle.law_recovery.proofs.Judged.{when_none}
use Rattle.law_recovery.proofs.Laws.{confirm_refused, found_link, found_net, no_confirmation, no_offer, offer_refused, shows_again, three}
use Rattle.law_recovery.proofs.Requesting.{heard_up, net_range, timer_answer}
use Rattle.law_recovery.proofs.Rows.{may_use_of}
use Rattle.law_recovery.specs.Answering.{after_task}
use Rattle.law_recovery.proofs.Asking.{by_outcome}
use Rattle.law_recovery.specs.Fronts.{Front}
use Rattle.law_recovery.specs.KeyExchange.{eui_of}
use Rattle.law_recovery.proofs.Confirmed.{centre_acts, device_acts}
use Rattle.law_recovery.proofs.Exchanged.{turned}
use Rattle.law_run_steps.proofs.Others.{frame-up, own-up}
use Rattle.law_recovery.specs.Stages.{Keys, HaveCome, asked_bytes, device_seals, heard, timed}
use Rattle.law_recovery.specs.Rounds.{CameFrom}
use Rattle.law_recovery.specs.Stale.{AreStale, CameFromDevice, IsStale, after_stale}
use Rattle.law_recovery.specs.Turns.{Far, Asking, Offering, Proving, Proved, Done}
use Rattle.law_recovery.proofs.Floors.{links_within}
use Rattle.law_recovery.proofs.Kept.{AllKept, kept_from, row_kept, stale_leaves}
use Rattle.law_recovery.proofs.NetFloors.{sender_within}
use Rattle.law_recovery.proofs.LostSending.{HasSent, KeysFit, device_sends}
use Rattle.law_recovery.proofs.StaleFrames.{Floors, Late, fewer_by, late_so, left_by_nwk, next_is, no_more, turned_down}
use Rattle.law_recovery.proofs.Turning.{refused_turn}

-- ---- why a frame is stale

late_proof : (net : NetKey) (source nwk v : ℕ) (rest : Option Reason) → (rest ≡ Some (Stale v) → ⊥)
    → or_else (why_not_heard net source nwk) rest ≡ Some (Stale v)
    → nat_lt nwk (sender_floor source net).kept ≡ true
unfolding why_not_heard
late_proof net source nwk v rest other e =
    by_tests (nat_lt nwk (sender_floor source net).kept) (senders_full source nwk net) e
  where
    floor : ℕ
    floor = (sender_floor source net).kept

    by_tests : (a b : Bool)
        → or_else (or_else (obstacle_if a (Stale floor)) (obstacle_if b RowsFull)) rest ≡ Some (Stale v)
        → a ≡ true
    by_tests true b f = refl
    by_tests false true f = absurd (cc)
    by_tests false false f = absurd (other f)

sealed_other : (b : Bool) (v : ℕ) → obstacle_if b CounterSpent ≡ Some (Stale v) → ⊥
sealed_other true v e = absurd (cc)
sealed_other false v e = absurd (cc)

offered_other : (a b t : Bool) (v : ℕ)
    → or_else (obstacle_if a RowsFull) (or_else (obstacle_if b NoDraw) (obstacle_if t CounterSpent)) ≡ Some (Stale v)
    → ⊥
offered_other true b t v e = absurd (cc)
offered_other false true t v e = absurd (cc)
offered_other false false true v e = absurd (cc)
offered_other false false false v e = absurd (cc)

-- ---- the device's counter after its proof

abbrev shows_now : Tools → Setting → Bytes → Outcome
shows_now tools m key = Does [] (sends 0 true (Clear clear_command (VerifyKey 4 m.me.eui (verify_hash tools key))))

offered_timer : (tools : Tools) (m : Setting) (t : NodeState) (net : NetKey) → may_use t ≡ true → active_row t
    ≡ Some net → t.state ≡ Offered → member_timer tools m t ≡ verify_key tools m t
unfolding member_timer found_or usable_active
offered_timer tools m t net may active state = rw (may, active, state) refl

shows_by : (tools : Tools) (m : Setting) (t : NodeState) (row : LinkKey) → offered t (centre_of m.stations) ≡ Some row
    → spent Nwk t ≡ false → verify_key tools m t ≡ shows_now tools m row.key
unfolding verify_key found_or refuse_if
shows_by tools m t row e f = rw (e, f) refl

proves : (tools : Tools) (c m : Setting) (t : NodeState) (key : Bytes) (sequence : ℕ) (link : Bytes) → AreDeclared c m
    → (j : IsOffered t c.me.eui key sequence link) → spent Nwk t ≡ false
    → member_timer tools m t ≡ shows_now tools m j.keys.offer.key
proves tools c m t key sequence link d j free =
    offered_timer tools m t j.network.active (may_use_of t key sequence j.network) j.network.is_active j.is_offered
    ∙ shows_by tools m t j.keys.offer (ap (offered t) d.network.centre_known ∙ j.keys.is_offered) free

one_seal : (tools : Tools) (m : Setting) (t : NodeState) (n : Counting) (net : NetKey) (command : Command)
    → active_row t ≡ Some net → spent Nwk t ≡ false
    → (answer_by tools m t n (comes_to [] AtEvent (Does [] (sends 0 true (Clear clear_command command))))).seals
    ≡ nwk_term secured_frame 0 m.me.short m.me.eui net.key net.sequence (n.counter Nwk)
    (clear_command ∷ low_byte (n.counter Nwk) ∷ tools.spelled command) ∷ []
unfolding answer_by out_of may_seal part_of
one_seal tools m t n net command active free = rw (free, active) refl

nets_sealed : (v : NodeState) (t : Term) → t.layer ≡ Nwk → (sealed_all (t ∷ []) v).nets
    ≡ at_net t.base (next_at (t.counter + 1)) v.nets
unfolding after_sealing
nets_sealed v t e = rw e refl

nwk_goes_on : (tools : Tools) (m : Setting) (t : NodeState) (n : Counting) (net : NetKey) (command : Command)
    (key : Bytes) (sequence : ℕ) → active_row t ≡ Some net → spent Nwk t ≡ false → net.key ≡ key
    → n.counter Nwk ≡ next_counter Nwk t
    → HasNetwork
    (answered (answer_by tools m t n (comes_to [] AtEvent (Does [] (sends 0 true (Clear clear_command command))))) t)
    key sequence
    → next_counter Nwk
    (answered (answer_by tools m t n (comes_to [] AtEvent (Does [] (sends 0 true (Clear clear_command command))))) t)
    ≡ next_counter Nwk t + 1
unfolding answered
nwk_goes_on tools m t n net command key sequence active free same counts h =
    let a = answer_by tools m t n (comes_to [] AtEvent (Does [] (sends 0 true (Clear clear_command command)))) in
    let v = accepted_all a.accepts (applied_all a.edits t) in
    let u = sealed_all a.seals v in
    let term = nwk_term secured_frame 0 m.me.short m.me.eui net.key net.sequence (n.counter Nwk)
    (clear_command ∷ low_byte (n.counter Nwk) ∷ tools.spelled command) in
    let nets : u.nets ≡ at_net net.key (next_at (n.counter Nwk + 1)) v.nets =
    ap (λ ts. (sealed_all ts v).nets) (one_seal tools m t n net command active free) ∙ nets_sealed v term refl in
    sealed_next u net.key sequence (n.counter Nwk + 1) v.nets (subst (λ x. HasNetwork u x sequence) (sym same) h) nets
    ∙ ap (λ x. x + 1) counts

proof_counts : (tools : Tools) (c m : Setting) (t : NodeState) (key : Bytes) (sequence : ℕ) (link : Bytes)
    → AreDeclared c m → IsOffered t c.me.eui key sequence link → why_no_proof t ≡ None
    → next_counter Nwk (after_task tools m t DoTimer) ≡ next_counter Nwk t + 1
unfolding after_task counting_of
proof_counts tools c m t key sequence link d j none =
    let free = when_none (spent Nwk t) CounterSpent none in
    let command = VerifyKey 4 m.me.eui (verify_hash tools j.keys.offer.key) in
    let o = shows_now tools m j.keys.offer.key in
    let is : answer tools m t DoTimer ≡ by_outcome tools m t o =
    timer_answer tools m t o d.network.member_role (proves tools c m t key sequence link d j free) in
    subst (λ a. next_counter Nwk (answered a t) ≡ next_counter Nwk t + 1) (sym is)
    (nwk_goes_on tools m t (counting_of m t (comes_to [] AtEvent o)) j.network.active command key sequence
    j.network.is_active free j.network.active_key refl
    (subst (λ a. HasNetwork (answered a t) key sequence) is (shows_again tools c m t key sequence link d j).network))

-- ---- what a stale frame leaves of the centre

carried_request : (tools : Tools) → DeliversCommands tools → (cs m : Setting) (g : Seals) → StationsInRange cs m
    → NwkInRange g → ApsInRange g → IsCarried tools (net_frame m cs g) (sealed_content tools (request m g))
carried_request tools delivers cs m g st rn ra =
    delivers.carried (net_frame m cs g) (request m g) (net_range m cs g st.device_short st.centre_short st.device rn)
    (record { link = ra.link; source = st.device; counter = ra.counter; command = tt })

unsealed_request : (tools : Tools) → DeliversCommands tools → (cs m : Setting) (g : Seals) → StationsInRange cs m
    → ApsInRange g → IsUnsealed tools (request m g)
unsealed_request tools delivers cs m g st ra =
    delivers.unsealed (request m g)
    (record { link = ra.link; source = st.device; counter = ra.counter; command = tt })

-- a proof that is stale leaves the centre as it was
proved_stale : (tools : Tools) → DeliversCommands tools → (cs m : Setting) (s : NodeState) (g : Seals) (row : LinkKey)
    (draw : Option Bytes) → AreDeclared cs m → StationsInRange cs m → NwkInRange g
    → (h : HasNetwork s g.key g.sequence) → current s m.me.eui ≡ Some row
    → nat_lt g.nwk (sender_floor m.me.eui h.found).kept ≡ true
    → after_task tools cs s (Received (proof_bytes tools cs m g) draw) ≡ s
proved_stale tools delivers cs m s g row draw d st rn h here late =
    let f = net_frame m cs g in
    let command = VerifyKey 4 m.me.eui (verify_hash tools g.link) in
    stale_leaves tools cs s f (clear_content tools g.nwk command) h.found draw
    (delivers.carried_clear f command (net_range m cs g st.device_short st.centre_short st.device rn)
    (omega arith, st.device, delivers.proof g.link))
    (heard_up cs m s g row d h here rn.counter) late

-- ---- between two turns

abbrev ApsIs : Far → NodeState → ℕ → Type 0
ApsIs Asking t n = next_counter Aps t ≡ n
ApsIs Offering t n = next_counter Aps t ≡ n
ApsIs _ t n = Unit {0}

abbrev LinksAre : Far → NodeState → ℕ → Bytes → ℕ → Type 0
LinksAre Asking s device link most = AllKept device link most s.links
LinksAre Offering s device link most = AllKept device link most s.links
LinksAre _ s device link most = Unit {0}

-- this many turns were stale, if the device began with these counters
record Holds (w : Schedule) (x : Front) (c d : ℕ) (k : Keys) (far : Far) (nwk aps turns : ℕ) : Type 0 where
  come : HaveCome w x c d k far
  nwk_is : next_counter Nwk (state_of x.lines d) ≡ nwk + turns
  aps_is : ApsIs far (state_of x.lines d) (aps + turns)
  floors : Floors (state_of x.lines c) (eui_of w d) k.network k.sequence (nwk + ((setting_of w c).me.in_block - 1))
  links : LinksAre far (state_of x.lines c) (eui_of w d) k.link (aps + ((setting_of w c).me.in_block - 1))

-- what a turn leaves of the two nodes and of the air
record Passed (tools : Tools) (w : Schedule) (x : Front) (c d : ℕ) (k : Keys) (far : Far) : Type 0 where
  sent : HasSent tools w x c d k far (length (air x.lines))
  centre : state_of (timed tools w x d).lines c ≡ state_of x.lines c
  come : HaveCome w (heard tools w x c d) c d k far
  device_then : state_of (heard tools w x c d).lines d
      ≡ after_task tools (setting_of w d) (state_of x.lines d) DoTimer
  centre_then : state_of (heard tools w x c d).lines c
      ≡ after_task tools (setting_of w c) (state_of x.lines c)
      (Received (asked_bytes far tools w c d (device_seals far (state_of x.lines d) k))
      (supply w (timed tools w x d).lines))

passed : (tools : Tools) → OpensAsJudged tools → (w : Schedule) (x : Front) (c d : ℕ) (k : Keys) (far : Far)
    → KeysFit k → HaveCome w x c d k far → IsStale tools w x c d k far → Passed tools w x c d k far
passed tools opens w x c d k far fit h st =
    let frames = length (air x.lines) in
    let y = timed tools w x d in
    let a = device_sends tools opens w x c d k far frames fit h refl st.sends in
    let bytes = asked_bytes far tools w c d (device_seals far (state_of x.lines d) k) in
    let task = Received bytes (supply w y.lines) in
    let first = device_acts tools opens w x c d DoTimer (Own d DoTimer) h.met h.met.apart
    (own-up tools w x.lines x.disks x.number d DoTimer h.met.device_ready.up) in
    let second = centre_acts tools opens w y c d task (Deliver (frames + 1) c) a.come.met
    (turned d c a.come.met.apart)
    (frame-up tools w y.lines y.disks y.number (frames + 1) c bytes a.come.met.centre_ready.up a.on_air.last) in
    record {
      sent = a;
      centre = first.centre;
      come = refused_turn tools opens w y c d k far (frames + 1) c a.come
          (record {
            one = inl refl;
            bytes = bytes;
            on_air = a.on_air.last;
            reason = Stale st.floor;
            refused = st.refused;
          });
      device_then = second.device ∙ first.device;
      centre_then = second.centre ∙ ap (λ s. after_task tools (setting_of w c) s task) first.centre;
    }

pub stays_as_far : (tools : Tools) → OpensAsJudged tools → (w : Schedule) (c d : ℕ) (k : Keys) (far : Far) (n : ℕ)
    (x : Front) → KeysFit k → HaveCome w x c d k far → AreStale tools w c d k far n x
    → HaveCome w (after_stale tools w c d n x) c d k far
stays_as_far tools opens w c d k far zero x fit h all = h
stays_as_far tools opens w c d k far (suc n) x fit h all =
    stays_as_far tools opens w c d k far n (heard tools w x c d) fit
    (passed tools opens w x c d k far fit h all.0).come all.1

-- ---- one turn

-- a turn whose request is stale
record RequestNext (w : Schedule) (c d : ℕ) (k : Keys) (t s : NodeState) (nwk aps turns : ℕ) : Type 0 where
  less : turns + 1 < (setting_of w c).me.in_block
  nwk_is : next_counter Nwk t ≡ nwk + (turns + 1)
  aps_is : next_counter Aps t ≡ aps + (turns + 1)
  floors : Floors s (eui_of w d) k.network k.sequence (nwk + ((setting_of w c).me.in_block - 1))
  links : AllKept (eui_of w d) k.link (aps + ((setting_of w c).me.in_block - 1)) s.links

request_next : (tools : Tools) → DeliversCommands tools → OpensAsJudged tools → (w : Schedule) (c d : ℕ) (k : Keys)
    (t u s : NodeState) (row : LinkKey) (draw : Option Bytes) (nwk aps turns : ℕ)
    → AreDeclared (setting_of w c) (setting_of w d) → StationsInRange (setting_of w c) (setting_of w d)
    → NwkInRange (seals_now t k.network k.sequence k.link) → ApsInRange (seals_now t k.network k.sequence k.link)
    → IsSteady (setting_of w c) s → (h : HasNetwork s k.network k.sequence) → current s (eui_of w d) ≡ Some row
    → row.key ≡ k.link → Late h.found row (eui_of w d) (next_counter Nwk t) (next_counter Aps t)
    → next_counter Nwk t ≡ nwk + turns → next_counter Aps t ≡ aps + turns → GoesOn t u
    → Floors s (eui_of w d) k.network k.sequence (nwk + ((setting_of w c).me.in_block - 1))
    → AllKept (eui_of w d) k.link (aps + ((setting_of w c).me.in_block - 1)) s.links
    → RequestNext w c d k u
    (after_task tools (setting_of w c) s
    (Received (request_bytes tools (setting_of w c) (setting_of w d) (seals_now t k.network k.sequence k.link)) draw))
    nwk aps turns
request_next tools delivers opens w c d k t u s row draw nwk aps turns declared st rn ra i h here key late is_nwk
    is_aps goes floors links =
    let cs = setting_of w c in
    let m = setting_of w d in
    let g = seals_now t k.network k.sequence k.link in
    let low = row_kept s (eui_of w d) k.link (aps + (cs.me.in_block - 1)) row here key links in
    let r = turned_down tools opens cs s (net_frame m cs g) (request m g) row draw nwk aps turns declared.centre_block
    i (carried_request tools delivers cs m g st rn ra) (unsealed_request tools delivers cs m g st ra) h
    (heard_up cs m s g row declared h here rn.counter) late is_nwk is_aps floors links low in
    record {
      less = r.less;
      nwk_is = next_is (next_counter Nwk t) (next_counter Nwk u) nwk turns goes.nwk is_nwk;
      aps_is = next_is (next_counter Aps t) (next_counter Aps u) aps turns goes.aps is_aps;
      floors = r.floors;
      links = r.links;
    }

record Next (tools : Tools) (w : Schedule) (x : Front) (c d : ℕ) (k : Keys) (far : Far) (nwk aps turns : ℕ) : Type 0
  where
    less : turns + 1 < (setting_of w c).me.in_block
    holds : Holds w (heard tools w x c d) c d k far nwk aps (turns + 1)

-- the refusal at the state that the centre had before the device's timer
refused_at_first : (tools : Tools) (w : Schedule) (x : Front) (c d : ℕ) (k : Keys) (far : Far)
    → (st : IsStale tools w x c d k far) → state_of (timed tools w x d).lines c ≡ state_of x.lines c
    → (answer tools (setting_of w c) (state_of x.lines c)
    (Received (asked_bytes far tools w c d (device_seals far (state_of x.lines d) k))
    (supply w (timed tools w x d).lines))).refusal ≡ Some (Stale st.floor)
refused_at_first tools w x c d k far st e =
    subst (λ s. (answer tools (setting_of w c) s
    (Received (asked_bytes far tools w c d (device_seals far (state_of x.lines d) k))
    (supply w (timed tools w x d).lines))).refusal ≡ Some (Stale st.floor)) e st.refused

asking_next : (tools : Tools) → DeliversCommands tools → OpensAsJudged tools → (w : Schedule) (x : Front) (c d : ℕ)
    (k : Keys) (nwk aps turns : ℕ) → KeysFit k → Holds w x c d k Asking nwk aps turns
    → IsStale tools w x c d k Asking → Next tools w x c d k Asking nwk aps turns
asking_next tools delivers opens w x c d k nwk aps turns fit b st =
    let cs = setting_of w c in
    let m = setting_of w d in
    let s = state_of x.lines c in
    let t = state_of x.lines d in
    let g = seals_now t k.network k.sequence k.link in
    let draw = supply w (timed tools w x d).lines in
    let p = passed tools opens w x c d k Asking fit b.come st in
    let h = b.come in
    let l = h.centre in
    let chain = sym (no_offer s (eui_of w d) g draw h.network l)
    ∙ sym (offer_refused tools delivers cs m s g draw h.met.declared h.met.stations p.sent.range.0 p.sent.range.1
    h.met.centre_steady.rules h.network l)
    ∙ refused_at_first tools w x c d k Asking st p.centre in
    let late = late_so h.network.found l.row (eui_of w d) g.nwk g.aps st.floor (why_not_offered s draw)
    (offered_other (links_full s) (is_none (unless_held s draw)) (both_spent s) st.floor) chain in
    let r = request_next tools delivers opens w c d k t (after_task tools m t DoTimer) s l.row draw nwk aps turns
    h.met.declared h.met.stations p.sent.range.0 p.sent.range.1 h.met.centre_steady h.network l.is_current l.row_key
    late b.nwk_is b.aps_is
    (request_counts tools cs m t k.network k.sequence k.link h.met.declared h.device st.sends) b.floors b.links in
    record {
      less = r.less;
      holds = record {
        come = p.come;
        nwk_is = ap (next_counter Nwk) p.device_then ∙ r.nwk_is;
        aps_is = ap (next_counter Aps) p.device_then ∙ r.aps_is;
        floors = subst (λ z. Floors z (eui_of w d) k.network k.sequence (nwk + (cs.me.in_block - 1)))
            (sym p.centre_then) r.floors;
        links = subst (λ (z : NodeState). AllKept (eui_of w d) k.link (aps + (cs.me.in_block - 1)) z.links)
            (sym p.centre_then) r.links;
      };
    }

-- why a repeated request is refused
no_offer_again : (s : NodeState) (device : ℕ) (g : Seals) (key : Bytes) → (h : HasNetwork s g.key g.sequence)
    → (l : HasBoth s device g.link key)
    → why_no_offer_again s device g
    ≡ or_else (why_not_heard h.found device g.nwk) (or_else (why_not_opened l.row g.aps) (why_not_sealed s))
unfolding why_no_offer_again
no_offer_again s device g key h l =
    three (in_row (usable_of s g.sequence) (λ row. why_not_heard row device g.nwk))
    (why_not_heard h.found device g.nwk) (in_row (current s device) (λ row. why_not_opened row g.aps))
    (why_not_opened l.row g.aps) (why_not_sealed s)
    (found_net s g device h.found h.is_found) (found_link (current s device) l.row g.aps l.is_current)

offering_next : (tools : Tools) → DeliversCommands tools → OpensAsJudged tools → (w : Schedule) (x : Front) (c d : ℕ)
    (k : Keys) (nwk aps turns : ℕ) → KeysFit k → Holds w x c d k Offering nwk aps turns
    → IsStale tools w x c d k Offering → Next tools w x c d k Offering nwk aps turns
offering_next tools delivers opens w x c d k nwk aps turns fit b st =
    let cs = setting_of w c in
    let m = setting_of w d in
    let s = state_of x.lines c in
    let t = state_of x.lines d in
    let g = seals_now t k.network k.sequence k.link in
    let draw = supply w (timed tools w x d).lines in
    let p = passed tools opens w x c d k Offering fit b.come st in
    let h = b.come in
    let l = h.centre in
    let chain = sym (no_offer_again s (eui_of w d) g k.drawn h.network l)
    ∙ sym (again_refused tools delivers cs m s g k.drawn draw h.met.declared h.met.stations p.sent.range.0
    p.sent.range.1 h.met.centre_steady.rules h.network l st.closed)
    ∙ refused_at_first tools w x c d k Offering st p.centre in
    let late = late_so h.network.found l.row (eui_of w d) g.nwk g.aps st.floor (why_not_sealed s)
    (sealed_other (both_spent s) st.floor) chain in
    let r = request_next tools delivers opens w c d k t (after_task tools m t DoTimer) s l.row draw nwk aps turns
    h.met.declared h.met.stations p.sent.range.0 p.sent.range.1 h.met.centre_steady h.network l.is_current l.row_key
    late b.nwk_is b.aps_is
    (request_counts tools cs m t k.network k.sequence k.link h.met.declared h.device st.sends) b.floors b.links in
    record {
      less = r.less;
      holds = record {
        come = p.come;
        nwk_is = ap (next_counter Nwk) p.device_then ∙ r.nwk_is;
        aps_is = ap (next_counter Aps) p.device_then ∙ r.aps_is;
        floors = subst (λ z. Floors z (eui_of w d) k.network k.sequence (nwk + (cs.me.in_block - 1)))
            (sym p.centre_then) r.floors;
        links = subst (λ (z : NodeState). AllKept (eui_of w d) k.link (aps + (cs.me.in_block - 1)) z.links)
            (sym p.centre_then) r.links;
      };
    }

-- ---- a turn whose proof is stale

record ProofNext (w : Schedule) (c d : ℕ) (k : Keys) (t s : NodeState) (nwk turns : ℕ) : Type 0 where
  less : turns + 1 < (setting_of w c).me.in_block
  nwk_is : next_counter Nwk t ≡ nwk + (turns + 1)
  floors : Floors s (eui_of w d) k.network k.sequence (nwk + ((setting_of w c).me.in_block - 1))

proof_next : (tools : Tools) → DeliversCommands tools → (w : Schedule) (c d : ℕ) (k : Keys) (t s : NodeState)
    (row : LinkKey) (draw : Option Bytes) (nwk turns : ℕ) → AreDeclared (setting_of w c) (setting_of w d)
    → StationsInRange (setting_of w c) (setting_of w d) → NwkInRange (seals_now t k.network k.sequence k.drawn)
    → (h : HasNetwork s k.network k.sequence) → current s (eui_of w d) ≡ Some row
    → nat_lt (next_counter Nwk t) (sender_floor (eui_of w d) h.found).kept ≡ true
    → next_counter Nwk t ≡ nwk + turns → IsOffered t (eui_of w c) k.network k.sequence k.drawn → why_no_proof t ≡ None
    → Floors s (eui_of w d) k.network k.sequence (nwk + ((setting_of w c).me.in_block - 1))
    → ProofNext w c d k (after_task tools (setting_of w d) t DoTimer)
    (after_task tools (setting_of w c) s
    (Received (proof_bytes tools (setting_of w c) (setting_of w d) (seals_now t k.network k.sequence k.drawn)) draw))
    nwk turns
proof_next tools delivers w c d k t s row draw nwk turns declared st rn h here late is_nwk j none floors =
    let block = (setting_of w c).me.in_block in
    let g = seals_now t k.network k.sequence k.drawn in
    let u = after_task tools (setting_of w d) t DoTimer in
    let same = proved_stale tools delivers (setting_of w c) (setting_of w d) s g row draw declared st rn h here late in
    record {
      less = fewer_by (next_counter Nwk t) nwk turns (sender_floor (eui_of w d) h.found).kept block
          (ltb-true (next_counter Nwk t) (sender_floor (eui_of w d) h.found).kept late) is_nwk (floors.floor h);
      nwk_is = next_is (next_counter Nwk t) (next_counter Nwk u) nwk turns
          (proof_counts tools (setting_of w c) (setting_of w d) t k.network k.sequence k.drawn declared j none) is_nwk;
      floors = left_by_nwk s
          (after_task tools (setting_of w c) s
          (Received (proof_bytes tools (setting_of w c) (setting_of w d) g) draw))
          (eui_of w d) k.network k.sequence (nwk + (block - 1)) same floors;
    }

proving_next : (tools : Tools) → DeliversCommands tools → OpensAsJudged tools → (w : Schedule) (x : Front) (c d : ℕ)
    (k : Keys) (nwk aps turns : ℕ) → KeysFit k → Holds w x c d k Proving nwk aps turns
    → IsStale tools w x c d k Proving → Next tools w x c d k Proving nwk aps turns
proving_next tools delivers opens w x c d k nwk aps turns fit b st =
    let cs = setting_of w c in
    let m = setting_of w d in
    let s = state_of x.lines c in
    let t = state_of x.lines d in
    let g = seals_now t k.network k.sequence k.drawn in
    let draw = supply w (timed tools w x d).lines in
    let p = passed tools opens w x c d k Proving fit b.come st in
    let h = b.come in
    let chain = sym (no_confirmation s (eui_of w d) g h.network)
    ∙ sym (confirm_refused tools delivers cs m s g draw h.met.declared h.met.stations p.sent.range h.network h.centre)
    ∙ refused_at_first tools w x c d k Proving st p.centre in
    let late = late_proof h.network.found (eui_of w d) g.nwk st.floor (why_not_sealed s)
    (sealed_other (both_spent s) st.floor) chain in
    let r = proof_next tools delivers w c d k t s h.centre.row draw nwk turns h.met.declared h.met.stations
    p.sent.range h.network h.centre.is_current late b.nwk_is h.device st.sends b.floors in
    record {
      less = r.less;
      holds = record {
        come = p.come;
        nwk_is = ap (next_counter Nwk) p.device_then ∙ r.nwk_is;
        aps_is = tt;
        floors = subst (λ z. Floors z (eui_of w d) k.network k.sequence (nwk + (cs.me.in_block - 1)))
            (sym p.centre_then) r.floors;
        links = tt;
      };
    }

proved_next : (tools : Tools) → DeliversCommands tools → OpensAsJudged tools → (w : Schedule) (x : Front) (c d : ℕ)
    (k : Keys) (nwk aps turns : ℕ) → KeysFit k → Holds w x c d k Proved nwk aps turns
    → IsStale tools w x c d k Proved → Next tools w x c d k Proved nwk aps turns
proved_next tools delivers opens w x c d k nwk aps turns fit b st =
    let cs = setting_of w c in
    let m = setting_of w d in
    let s = state_of x.lines c in
    let t = state_of x.lines d in
    let g = seals_now t k.network k.sequence k.drawn in
    let draw = supply w (timed tools w x d).lines in
    let p = passed tools opens w x c d k Proved fit b.come st in
    let h = b.come in
    let chain = sym (no_confirmation s (eui_of w d) g h.network)
    ∙ sym (confirm_again_refused tools delivers cs m s g draw h.met.declared h.met.stations p.sent.range h.network
    h.centre)
    ∙ refused_at_first tools w x c d k Proved st p.centre in
    let late = late_proof h.network.found (eui_of w d) g.nwk st.floor (why_not_sealed s)
    (sealed_other (both_spent s) st.floor) chain in
    let r = proof_next tools delivers w c d k t s h.centre.row draw nwk turns h.met.declared h.met.stations
    p.sent.range h.network h.centre.is_current late b.nwk_is h.device st.sends b.floors in
    record {
      less = r.less;
      holds = record {
        come = p.come;
        nwk_is = ap (next_counter Nwk) p.device_then ∙ r.nwk_is;
        aps_is = tt;
        floors = subst (λ z. Floors z (eui_of w d) k.network k.sequence (nwk + (cs.me.in_block - 1)))
            (sym p.centre_then) r.floors;
        links = tt;
      };
    }

-- ---- all of them

one_turn : (tools : Tools) → DeliversCommands tools → OpensAsJudged tools → (w : Schedule) (x : Front) (c d : ℕ)
    (k : Keys) (far : Far) (nwk aps turns : ℕ) → KeysFit k → Holds w x c d k far nwk aps turns
    → IsStale tools w x c d k far → Next tools w x c d k far nwk aps turns
one_turn tools delivers opens w x c d k Asking nwk aps turns fit b st =
    asking_next tools delivers opens w x c d k nwk aps turns fit b st
one_turn tools delivers opens w x c d k Offering nwk aps turns fit b st =
    offering_next tools delivers opens w x c d k nwk aps turns fit b st
one_turn tools delivers opens w x c d k Proving nwk aps turns fit b st =
    proving_next tools delivers opens w x c d k nwk aps turns fit b st
one_turn tools delivers opens w x c d k Proved nwk aps turns fit b st =
    proved_next tools delivers opens w x c d k nwk aps turns fit b st
one_turn tools delivers opens w x c d k Done nwk aps turns fit b st = none_over (st.sends)
  where
    none_over : {X : Type 0} → ◌≡◌ {A = ℕ} 0 1 → X
    none_over e = absurd (cc)

all_less : (tools : Tools) → DeliversCommands tools → OpensAsJudged tools → (w : Schedule) (c d : ℕ) (k : Keys)
    (far : Far) (nwk aps n turns : ℕ) (x : Front) → KeysFit k → Holds w x c d k far nwk aps turns
    → turns < (setting_of w c).me.in_block → AreStale tools w c d k far n x → turns + n < (setting_of w c).me.in_block
all_less tools delivers opens w c d k far nwk aps zero turns x fit b less all = omega (arith, less)
all_less tools delivers opens w c d k far nwk aps (suc n) turns x fit b less all =
    let next = one_turn tools delivers opens w x c d k far nwk aps turns fit b all.0 in
    let more = all_less tools delivers opens w c d k far nwk aps n (turns + 1) (heard tools w x c d) fit next.holds
    next.less all.1 in
    omega (arith, more)

-- what came from the device alone bounds the floors at the first front
came_floors : (w : Schedule) (x : Front) (c d : ℕ) (k : Keys) → CameFrom Nwk w x d c k.network
    → Floors (state_of x.lines c) (eui_of w d) k.network k.sequence
    (next_counter Nwk (state_of x.lines d) + ((setting_of w c).me.in_block - 1))
came_floors w x c d k came =
    record { floor = λ h. sender_within w x d c k.network k.sequence h came }

came_links : (w : Schedule) (x : Front) (c d : ℕ) (k : Keys) → CameFrom Aps w x d c k.link
    → AllKept (eui_of w d) k.link (next_counter Aps (state_of x.lines d) + ((setting_of w c).me.in_block - 1))
    (state_of x.lines c).links
came_links w x c d k came =
    kept_from (eui_of w d) k.link (next_counter Aps (state_of x.lines d) + ((setting_of w c).me.in_block - 1))
    (state_of x.lines c).links (links_within w x d c k.link came)

begins : (w : Schedule) (x : Front) (c d : ℕ) (k : Keys) (far : Far) → HaveCome w x c d k far
    → CameFromDevice far w x c d k
    → Holds w x c d k far (next_counter Nwk (state_of x.lines d)) (next_counter Aps (state_of x.lines d)) 0
begins w x c d k Asking h came = record {
  come = h;
  nwk_is = no_more (next_counter Nwk (state_of x.lines d));
  aps_is = no_more (next_counter Aps (state_of x.lines d));
  floors = came_floors w x c d k came.0;
  links = came_links w x c d k came.1;
}
begins w x c d k Offering h came = record {
  come = h;
  nwk_is = no_more (next_counter Nwk (state_of x.lines d));
  aps_is = no_more (next_counter Aps (state_of x.lines d));
  floors = came_floors w x c d k came.0;
  links = came_links w x c d k came.1;
}
begins w x c d k Proving h came = record {
  come = h;
  nwk_is = no_more (next_counter Nwk (state_of x.lines d));
  aps_is = tt;
  floors = came_floors w x c d k came;
  links = tt;
}
begins w x c d k Proved h came = record {
  come = h;
  nwk_is = no_more (next_counter Nwk (state_of x.lines d));
  aps_is = tt;
  floors = came_floors w x c d k came;
  links = tt;
}
begins w x c d k Done h came = record {
  come = h;
  nwk_is = no_more (next_counter Nwk (state_of x.lines d));
  aps_is = tt;
  floors = came_floors w x c d k came;
  links = tt;
}

pub stale_turns_are_fewer : (tools : Tools) → DeliversCommands tools → OpensAsJudged tools → (w : Schedule) (c d : ℕ)
    (k : Keys) (far : Far) (n : ℕ) (x : Front) → KeysFit k → HaveCome w x c d k far → CameFromDevice far w x c d k
    → AreStale tools w c d k far n x → n < (setting_of w c).me.in_block
stale_turns_are_fewer tools delivers opens w c d k far n x fit h came all =
    let less = all_less tools delivers opens w c d k far (next_counter Nwk (state_of x.lines d))
    (next_counter Aps (state_of x.lines d)) n 0 x fit (begins w x c d k far h came) h.met.declared.centre_block all in
    omega (arith, less)
