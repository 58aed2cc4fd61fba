-- A round of rejoining whose answer is stale leaves the two as they were, except that one more counter is used.
use Rattle.std.proofs.Common.{◌≡◌, ℕ, zero, suc, ◌+◌, ◌-◌, ◌<◌, ◌≤◌, true, [], ◌∷◌, ◌++◌, length, Some, None, option_to_list, nat_lt, refl, sym, ap, ◌∙◌, subst, arith}
use Rattle.std.proofs.lemmas.Bool.{lt-ltb}
use Rattle.std.proofs.lemmas.List.{append-nil}
use Rattle.zb_model.specs.Answer.{answer, answered}
use Rattle.zb_model.specs.Commands.{dropped_at}
use Rattle.zb_model.specs.Data.{Aps, DoRejoin, HasChild, Received}
use Rattle.zb_model.specs.Fits.{keeps_rules}
use Rattle.zb_model.specs.Play.{Schedule, Own, Deliver, frame_at, setting_of, supply}
use Rattle.zb_model.specs.Readings.{air, state_of}
use Rattle.zb_model.specs.State.{LinkKey, NodeState, current, greatest_counter, next_counter, offered}
use Rattle.zb_model.specs.Tools.{Tools}
use Rattle.law_answer_storable.specs.Storing.{OpensAsJudged}
use Rattle.law_recovery.specs.Meeting.{IsSteady}
use Rattle.law_recovery.proofs.Steady.{steady_after}
use Rattle.law_recovery.specs.Answering.{after_task}
use Rattle.law_recovery.specs.KeyFrames.{DeliversKeys, key_bytes}
use Rattle.law_recovery.specs.Rejoining.{answer_frame, may_rejoin, rejoining, why_no_room, why_not_sent, why_old}
use Rattle.law_recovery.specs.Repeating.{WentOn}
use Rattle.law_recovery.proofs.Asking.{asks_silently, sends_key, waits}
use Rattle.law_recovery.proofs.Repeating.{in_range, once, relinked, still, taken_by}
use Rattle.law_recovery.proofs.Taking.{left_by_stale, unspent_of}
use Rattle.law_recovery.specs.Fronts.{CanRejoin, EndsRejoined, Front, IsReady, after_event, after_events, rejoin_events}
use Rattle.law_recovery.proofs.Airs.{last-frame}
use Rattle.law_recovery.proofs.Exchanged.{answered-by, left-by, rejoined, turned}
use Rattle.law_run_steps.proofs.Others.{own-up, frame-up}
use Rattle.law_recovery.specs.Rounds.{RejoinsLater, after_rounds}

-- the states after a stale round
record StaleRound (tools : Tools) (w : Schedule) (x : Front) (c d : ℕ) : Type 0 where
  centre : state_of (after_events tools w x (rejoin_events x c d)).lines c
      ≡ after_task tools (setting_of w c) (state_of x.lines c) (HasChild d true)
  member : state_of (after_events tools w x (rejoin_events x c d)).lines d ≡ rejoining (state_of x.lines d)
  centre_ready : IsReady (after_events tools w x (rejoin_events x c d)) c
  member_ready : IsReady (after_events tools w x (rejoin_events x c d)) d

stale_round : (tools : Tools) → DeliversKeys tools → (w : Schedule) (x : Front) (c d n : ℕ)
    → (later : RejoinsLater w x c d n) → nat_lt (next_counter Aps (state_of x.lines c)) later.linked.own.kept ≡ true
    → StaleRound tools w x c d
unfolding after_task
stale_round tools delivers w x c d n can behind =
    let m = setting_of w d in
    let cs = setting_of w c in
    let s = state_of x.lines c in
    let t = state_of x.lines d in
    let l = can.linked in
    let bytes = key_bytes tools (answer_frame cs m s l.net l.row) in
    let asks = answer tools m t DoRejoin in
    let y = after_event tools w x (Own d DoRejoin) in
    let a1 = answered-by tools w x d asks (Own d DoRejoin) can.member_ready
    (own-up tools w x.lines x.disks x.number d DoRejoin can.member_ready.up) in
    let l1 = left-by tools w x c (Own d DoRejoin) can.apart in
    let ready_c = l1.ready can.centre_ready in
    let child = answer tools cs (state_of y.lines c) (HasChild d true) in
    let z = after_event tools w y (Own c (HasChild d true)) in
    let a2 = answered-by tools w y c child (Own c (HasChild d true)) ready_c
    (own-up tools w y.lines y.disks y.number c (HasChild d true) ready_c.up) in
    let l2 = left-by tools w y d (Own c (HasChild d true)) (turned d c can.apart) in
    let ready_d = l2.ready a1.ready in
    let sent : child.frame ≡ Some bytes =
    ap (λ v. (answer tools cs v (HasChild d true)).frame) l1.state ∙ ap
    (λ k. (answer tools cs s (HasChild k true)).frame) (sym can.mine)
    ∙ sends_key tools cs m s t can.network l (unspent_of s d can.not_stopped) true in
    let silent : air y.lines ≡ air x.lines = a1.on_air ∙ ap (λ o. air x.lines ++ option_to_list o)
    (asks_silently tools m t can.network.member_role) ∙ append-nil (air x.lines) in
    let heard : air z.lines ≡ air x.lines ++ bytes ∷ [] = a2.on_air ∙ ap (λ o. air y.lines ++ option_to_list o) sent
    ∙ ap (λ k. k ++ bytes ∷ []) silent in
    let at : frame_at z.lines (length (air x.lines) + 1) ≡ Some bytes = last-frame z.lines (air x.lines) bytes heard in
    let frame = length (air x.lines) + 1 in
    let takes = answer tools m (state_of z.lines d) (Received bytes (supply w z.lines)) in
    let a3 = answered-by tools w z d takes (Deliver frame d) ready_d
    (frame-up tools w z.lines z.disks z.number frame d bytes ready_d.up at) in
    let l3 = left-by tools w z c (Deliver frame d) can.apart in
    let wait : state_of z.lines d ≡ rejoining t =
    l2.state ∙ a1.state ∙ waits tools m t can.network.member_role can.may in
    record {
      centre = l3.state ∙ a2.state ∙ ap (λ v. answered (answer tools cs v (HasChild d true)) v) l1.state;
      member = a3.state ∙ ap (λ v. answered (answer tools m v (Received bytes (supply w z.lines))) v) wait
          ∙ left_by_stale tools delivers cs m s t can.network l can.in_range can.rules (supply w z.lines) behind;
      centre_ready = l3.ready a2.ready;
      member_ready = a3.ready;
    }

-- ---- after one round

-- a member that waits has the keys that it had
same_current : (t : NodeState) (p : ℕ) → current (rejoining t) p ≡ current t p
unfolding current
same_current t p = refl

same_offered : (t : NodeState) (p : ℕ) → offered (rejoining t) p ≡ offered t p
unfolding offered
same_offered t p = refl

steady_waits : (tools : Tools) → OpensAsJudged tools → (w : Schedule) (x : Front) (c d n : ℕ) → RejoinsLater w x c d n
    → IsSteady (setting_of w d) (rejoining (state_of x.lines d))
steady_waits tools opens w x c d n can =
    subst (IsSteady (setting_of w d))
    (waits tools (setting_of w d) (state_of x.lines d) can.network.member_role can.may)
    (steady_after tools opens (setting_of w d) (state_of x.lines d) DoRejoin can.network.in_block
    (record { rules = can.rules; role = can.role }))

less_by_one : (kept next now n : ℕ) → kept - next ≡ suc n → now ≡ next + 1 → kept - now ≡ n
less_by_one kept next now n e f = omega (arith, e, f)

is_behind : (kept next n : ℕ) → kept - next ≡ suc n → next < kept
is_behind kept next n e = omega (arith, e)

one_on : (tools : Tools) → DeliversKeys tools → OpensAsJudged tools → (w : Schedule) (x : Front) (c d n : ℕ)
    → RejoinsLater w x c d (suc n) → RejoinsLater w (after_events tools w x (rejoin_events x c d)) c d n
one_on tools delivers opens w x c d n can =
    let m = setting_of w d in
    let cs = setting_of w c in
    let s = state_of x.lines c in
    let t = state_of x.lines d in
    let l = can.linked in
    let v = after_events tools w x (rejoin_events x c d) in
    let u = state_of v.lines c in
    let behind = lt-ltb (next_counter Aps s) l.own.kept (is_behind l.own.kept (next_counter Aps s) n can.stale) in
    let r = stale_round tools delivers w x c d (suc n) can behind in
    let sent : why_not_sent s m.me.eui ≡ None = subst (λ k. why_not_sent s k ≡ None) (sym can.mine) can.not_stopped in
    let went : WentOn s u m.me.eui 1 =
    subst (λ z. WentOn s z m.me.eui 1) (sym r.centre)
    (subst (λ k. WentOn s (after_task tools cs s (HasChild k true)) m.me.eui 1) can.mine
    (once tools cs s m.me.eui true can.network.centre_role sent)) in
    let q = relinked cs m s u t 1 l went in
    let small : next_counter Aps u < greatest_counter = omega (arith, went.counter, can.counters) in
    let next : next_counter Aps s + 1 < greatest_counter = omega (arith, can.counters) in
    let steady = steady_waits tools opens w x c d (suc n) can in
    record {
      apart = can.apart;
      mine = can.mine;
      network = can.network;
      centre_ready = r.centre_ready;
      member_ready = r.member_ready;
      rules = subst (λ z. keeps_rules z ≡ true) (sym r.member) steady.rules;
      role = subst (λ (z : NodeState). z.role ≡ m.me.role) (sym r.member) steady.role;
      may = subst (λ z. may_rejoin z ≡ true) (sym r.member) refl;
      linked =
          record {
            net = q.linked.net;
            active_key = q.linked.active_key;
            row = q.linked.row;
            at_centre = q.linked.at_centre;
            own = q.linked.own;
            at_member = ap (λ z. current z cs.me.eui) r.member ∙ same_current t cs.me.eui ∙ q.linked.at_member;
            same_key = q.linked.same_key;
            verified = q.linked.verified;
            no_offer = ap (λ z. offered z cs.me.eui) r.member ∙ same_offered t cs.me.eui ∙ q.linked.no_offer;
          };
      in_range = in_range cs m s u t l q can.in_range small;
      not_stopped = subst (λ k. why_not_sent u k ≡ None) can.mine (still s u m.me.eui 1 went sent next);
      not_refused =
          ap (λ (z : NodeState). why_old (dropped_at 0 q.linked.net.key z.nets) (why_no_room z q.linked.net.key))
          r.member
          ∙ ap (λ k. why_old (dropped_at 0 k t.nets) (why_no_room t k)) q.same_key ∙ can.not_refused;
      stale = ap (λ (o : LinkKey). o.kept - next_counter Aps u) q.same_own
          ∙ less_by_one l.own.kept (next_counter Aps s) (next_counter Aps u) n can.stale went.counter;
      counters = omega (arith, went.counter, can.counters);
    }

-- ---- and then the answer is accepted

can_rejoin : (w : Schedule) (x : Front) (c d : ℕ) → RejoinsLater w x c d 0 → CanRejoin w x c d
can_rejoin w x c d can = record {
  apart = can.apart;
  mine = can.mine;
  network = can.network;
  centre_ready = can.centre_ready;
  member_ready = can.member_ready;
  rules = can.rules;
  role = can.role;
  may = can.may;
  linked = can.linked;
  in_range = can.in_range;
  not_stopped = can.not_stopped;
  not_refused = taken_by (state_of x.lines d) can.linked.own (next_counter Aps (state_of x.lines c))
      can.linked.net.key (not_behind can.linked.own.kept (next_counter Aps (state_of x.lines c)) can.stale)
      can.not_refused;
}
  where
    not_behind : (kept next : ℕ) → kept - next ≡ 0 → kept ≤ next
    not_behind kept next e = omega (arith, e)

pub rounds_end : (tools : Tools) → DeliversKeys tools → OpensAsJudged tools → (w : Schedule) (c d n : ℕ) (x : Front)
    → RejoinsLater w x c d n → EndsRejoined (after_rounds tools w c d (suc n) x) c d
rounds_end tools delivers opens w c d zero x can = rejoined tools delivers opens w x c d (can_rejoin w x c d can)
rounds_end tools delivers opens w c d (suc n) x can =
    rounds_end tools delivers opens w c d n (after_events tools w x (rejoin_events x c d))
    (one_on tools delivers opens w x c d n can)
