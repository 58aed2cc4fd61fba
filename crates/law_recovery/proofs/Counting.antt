-- The next counters of the two nodes after the events of the exchange, and what the device keeps of the offered key's
-- floor.
use Rattle.std.proofs.Common.{◌≡◌, ℕ, ◌+◌, ◌≤◌, Bool, true, false, if◌then◌else◌, List, [], ◌∷◌, ◌++◌, map, filter, find, length, reverse, flat_map, Option, Some, None, option_map, option_to_list, nat_eq, refl, sym, ap, ◌∙◌, subst, arith, eq-eqb}
use Rattle.std.specs.List.{AllByRecursion}
use Rattle.std.proofs.lemmas.List.{map-append}
use Rattle.zb_model.specs.Data.{Bytes, Layer, Nwk, Aps, Label, ForData, ForLoad, Command, CounterSpent, AtAps, AtEvent, Unverified, Row, Became, Offered, RequestLink, TransportLink, Edit, Reserve, Floor, Moved, Move, Term, Place, DoTimer, Received}
use Rattle.zb_model.specs.Fits.{keeps_rules}
use Rattle.zb_model.specs.Frames.{secured_frame, nwk_term, aps_term, sealed_command}
use Rattle.zb_model.specs.Rules.{Setting, Outcome, Does, Secret, sends, short_of, both_spent}
use Rattle.zb_model.specs.State.{NetKey, LinkKey, NodeState, is_link, is_live_of, is_told, has_link, at_link, at_net, new_link, link_floor, link_kept, next_at, active_row, next_counter, applied, applied_all, after_sealing, after_hearing, after_accepting}
use Rattle.zb_model.specs.Tools.{Tools}
use Rattle.zb_model.specs.Answer.{Answer, Counting, accepted_all, sealed_all, comes_to, part_of, may_seal, out_of, changes, moves_of, move_edits, floor_edit, edits_of, answer_by, counting_of, plan_of, answer, answered}
use Rattle.law_change_fits.proofs.Tests.{any_map, any_same}
use Rattle.law_recovery.specs.Answering.{after_task}
use Rattle.law_recovery.proofs.Changing.{applied_then, reserves}
use Rattle.law_recovery.specs.CommandFrames.{DeliversCommands, link_term, net_term, sealed_content}
use Rattle.law_recovery.specs.Exchanging.{Seals, net_frame, offer, offer_bytes, request, request_bytes, StationsInRange, NwkInRange, ApsInRange}
use Rattle.law_recovery.specs.Meeting.{AreDeclared, HasLink, HasNetwork, IsJoined}
use Rattle.law_recovery.specs.Obstacles.{or_else, why_no_offer, why_no_request, why_not_heard, why_not_offered, why_not_opened, why_offer_not_kept}
use Rattle.law_recovery.proofs.Calm.{OfLinks, calm_answer, calm_next, sealed_next}
use Rattle.law_recovery.proofs.Judged.{both_terms, or_second, when_none}
use Rattle.law_recovery.proofs.Laws.{asks_again, no_offer, not_kept, offers}
use Rattle.law_recovery.proofs.Offering as offering
use Rattle.law_recovery.proofs.Quiet.{quiet, quiet_after}
use Rattle.law_recovery.proofs.Rows.{last_first}
use Rattle.law_recovery.proofs.Requesting as requesting
use Rattle.law_recovery.proofs.Sending.{apart_spent}

-- ---- two seals

two_seals : (tools : Tools) (c : Setting) (s : NodeState) (k : Counting) (accepts : List Term) (place : Place)
    (moves : List Move) (net : NetKey) (to : ℕ) (label : Label) (link : Bytes) (command : Command)
    → active_row s ≡ Some net → both_spent s ≡ false
    → (answer_by tools c s k (comes_to accepts place (Does moves (sends to true (Secret label link command))))).seals
    ≡ aps_term sealed_command label link c.me.eui (k.counter Aps) (tools.spelled command)
    ∷ nwk_term secured_frame to c.me.short c.me.eui net.key net.sequence (k.counter Nwk)
    (tools.wire (aps_term sealed_command label link c.me.eui (k.counter Aps) (tools.spelled command))) ∷ []
unfolding answer_by out_of may_seal part_of
two_seals tools c s k accepts place moves net to label link command active unspent =
    let z = apart_spent s unspent in
    rw (z.0, z.1, active) refl

pub record GoesOn (s u : NodeState) : Type 0 where
  pub nwk : next_counter Nwk u ≡ next_counter Nwk s + 1
  pub aps : next_counter Aps u ≡ next_counter Aps s + 1

aps_after : (v : NodeState) (a n : Term) → a.layer ≡ Aps → n.layer ≡ Nwk
    → next_counter Aps (sealed_all (a ∷ n ∷ []) v) ≡ a.counter + 1
unfolding next_counter after_sealing
aps_after v a n e f = rw (e, f) refl

nets_after : (v : NodeState) (a n : Term) → a.layer ≡ Aps → n.layer ≡ Nwk → (sealed_all (a ∷ n ∷ []) v).nets
    ≡ at_net n.base (next_at (n.counter + 1)) v.nets
unfolding after_sealing
nets_after v a n e f = rw (e, f) refl

pub both_go_on : (tools : Tools) (c : Setting) (s : NodeState) (k : Counting) (accepts : List Term) (place : Place)
    (moves : List Move) (net : NetKey) (to : ℕ) (label : Label) (link : Bytes) (command : Command) (key : Bytes)
    (sequence : ℕ) → active_row s ≡ Some net → both_spent s ≡ false → net.key ≡ key
    → k.counter Nwk ≡ next_counter Nwk s → k.counter Aps ≡ next_counter Aps s
    → HasNetwork
    (answered (answer_by tools c s k (comes_to accepts place (Does moves (sends to true (Secret label link command)))))
    s) key sequence
    → GoesOn s
    (answered (answer_by tools c s k (comes_to accepts place (Does moves (sends to true (Secret label link command)))))
    s)
unfolding answered
both_go_on tools c s k accepts place moves net to label link command key sequence active unspent same nwk aps h =
    let p = comes_to accepts place (Does moves (sends to true (Secret label link command))) in
    let a = answer_by tools c s k p in
    let v = accepted_all a.accepts (applied_all a.edits s) in
    let inner = aps_term sealed_command label link c.me.eui (k.counter Aps) (tools.spelled command) in
    let outer = nwk_term secured_frame to c.me.short c.me.eui net.key net.sequence (k.counter Nwk)
    (tools.wire inner) in
    let seals = two_seals tools c s k accepts place moves net to label link command active unspent in
    let u = sealed_all a.seals v in
    let nets : u.nets ≡ at_net net.key (next_at (k.counter Nwk + 1)) v.nets =
    ap (λ ts. (sealed_all ts v).nets) seals ∙ nets_after v inner outer refl refl in
    record {
      nwk = sealed_next u net.key sequence (k.counter Nwk + 1) v.nets
          (subst (λ x. HasNetwork u x sequence) (sym same) h)
          nets
          ∙ ap (λ n. n + 1) nwk;
      aps = ap (λ ts. next_counter Aps (sealed_all ts v)) seals ∙ aps_after v inner outer refl refl
          ∙ ap (λ n. n + 1) aps;
    }

pub request_counts : (tools : Tools) (c m : Setting) (t : NodeState) (key : Bytes) (sequence : ℕ) (link : Bytes)
    → AreDeclared c m → IsJoined t c.me.eui key sequence link → why_no_request t ≡ None
    → GoesOn t (after_task tools m t DoTimer)
unfolding after_task counting_of
request_counts tools c m t key sequence link d j none =
    let unspent = when_none (both_spent t) CounterSpent none in
    let is = requesting.request_answer tools c m t key sequence link d j false unspent in
    let p = comes_to [] AtEvent (requesting.asks false j.keys.row.key) in
    subst (λ a. GoesOn t (answered a t)) (sym is)
    (both_go_on tools m t (counting_of m t p) [] AtEvent [] j.network.active 0 ForData j.keys.row.key RequestLink key
    sequence j.network.is_active unspent j.network.active_key refl refl
    (subst (λ a. HasNetwork (answered a t) key sequence) is (asks_again tools c m t key sequence link d j).network))

pub request_quiet : (tools : Tools) (c m : Setting) (t : NodeState) (key : Bytes) (sequence : ℕ) (link : Bytes)
    → AreDeclared c m → IsJoined t c.me.eui key sequence link → quiet (after_task tools m t DoTimer) ≡ quiet t
unfolding after_task
request_quiet tools c m t key sequence link d j =
    let o = requesting.asks (both_spent t) j.keys.row.key in
    ap (λ a. quiet (answered a t)) (requesting.request_answer tools c m t key sequence link d j (both_spent t) refl)
    ∙ quiet_after tools m t (counting_of m t (comes_to [] AtEvent o)) o
    (requesting.asks_no_moves (both_spent t) j.keys.row.key)

-- ---- the offer is sent

pub offer_counts : (tools : Tools) → DeliversCommands tools
    → (c m : Setting) (s : NodeState) (k : Seals) (draw : Option Bytes) → AreDeclared c m → StationsInRange c m
    → NwkInRange k → ApsInRange k → keeps_rules s ≡ true → HasNetwork s k.key k.sequence → HasLink s m.me.eui k.link
    → why_no_offer s m.me.eui k draw ≡ None
    → GoesOn s (after_task tools c s (Received (request_bytes tools c m k) draw))
unfolding after_task answer counting_of
offer_counts tools delivers c m s k draw d st rn ra rules h l none =
    let device = m.me.eui in
    let free = sym (no_offer s device k draw h l) ∙ none in
    let first = why_not_heard h.found device k.nwk in
    let second = why_not_opened l.row k.aps in
    let third = why_not_offered s draw in
    let o = requesting.offers_of s draw (or_second second third (or_second first (or_else second third) free)) in
    let p = requesting.offer_end tools c m k l.row o.draws.key in
    let plan : plan_of tools c s (Received (request_bytes tools c m k) draw) ≡ p =
    requesting.offer_plan tools delivers c m s k draw d st rn ra rules h l free
    ∙ ap (comes_to (both_terms tools (net_frame m c k) (request m k)) AtAps)
    (requesting.offers_so c m s l.row draw o) in
    subst (λ q. GoesOn s (answered (answer_by tools c s (counting_of c s q) q) s)) (sym plan)
    (both_go_on tools c s (counting_of c s p) (both_terms tools (net_frame m c k) (request m k)) AtAps
    (requesting.given o.draws.key device) h.active (short_of c device) ForLoad l.row.key
    (TransportLink o.draws.key device c.me.eui) k.key k.sequence h.is_active o.unspent h.active_key refl refl
    (subst (λ q. HasNetwork (answered (answer_by tools c s (counting_of c s q) q) s) k.key k.sequence) plan
    (offers tools delivers c m s k draw d st rn ra rules h l none).network))

-- ---- the offer is kept

-- reserves and floors leave the keys of link rows
abbrev pub IsFloor : Edit → Type 0
IsFloor (Reserve layer limit) = Unit {0}
IsFloor (Floor layer key sender value) = Unit {0}
IsFloor e = ◌≡◌ {A = Bool} false true

floored_has : (p : ℕ) (key : Bytes) (sender : ℕ) (base : Bytes) (value : ℕ) (rs : List LinkKey)
    → has_link p key (at_link sender base (link_floor value) rs) ≡ has_link p key rs
floored_has p key sender base value rs =
    any_map (is_link p key) (λ (r : LinkKey). if is_link sender base r then link_floor value r else r) rs
    ∙ any_same (λ (r : LinkKey). is_link p key (if is_link sender base r then link_floor value r else r))
    (is_link p key) (λ r. by_test (is_link sender base r) r) rs
  where
    by_test : (b : Bool) (r : LinkKey) → is_link p key (if b then link_floor value r else r) ≡ is_link p key r
    by_test true r = refl
    by_test false r = refl

edit_has : (p : ℕ) (key : Bytes) (e : Edit) (s : NodeState) → IsFloor e → has_link p key (applied e s).links
    ≡ has_link p key s.links
unfolding applied
edit_has p key (Reserve Nwk limit) s is = refl
edit_has p key (Reserve Aps limit) s is = refl
edit_has p key (Floor Nwk base sender value) s is = refl
edit_has p key (Floor Aps base sender value) s is = floored_has p key sender base value s.links
edit_has p key _ s is = absurd cc

edits_has : (p : ℕ) (key : Bytes) (es : List Edit) (s : NodeState) → AllByRecursion IsFloor es
    → has_link p key (applied_all es s).links ≡ has_link p key s.links
unfolding applied_all
edits_has p key [] s all = refl
edits_has p key (e ∷ es) s all = edits_has p key es (applied e s) all.1 ∙ edit_has p key e s all.0

appended : {X : Type 0} (P : X → Type 0) (xs ys : List X) → AllByRecursion P xs → AllByRecursion P ys
    → AllByRecursion P (xs ++ ys)
appended P [] ys a b = b
appended P (x ∷ xs) ys a b = (a.0, appended P xs ys a.1 b)

are_reserves : (nwk aps : Option ℕ) → AllByRecursion IsFloor (reserves nwk aps)
are_reserves None None = tt
are_reserves None (Some v) = (tt, tt)
are_reserves (Some u) None = (tt, tt)
are_reserves (Some u) (Some v) = (tt, (tt, tt))

is_floor : (t : Term) (o : Option ℕ)
    → AllByRecursion IsFloor (option_to_list (option_map (Floor t.layer t.base t.source) o))
is_floor t None = tt
is_floor t (Some v) = (tt, tt)

are_floors : (k : Counting) (ts : List Term) → AllByRecursion IsFloor (flat_map (floor_edit k) ts)
are_floors k [] = tt
are_floors k (t ∷ ts) = appended IsFloor (floor_edit k t) (flat_map (floor_edit k) ts) (is_floor t (k.floor t.layer))
    (are_floors k ts)

own_edits : (tools : Tools) (c : Setting) (s : NodeState) (n : Counting) (o : Outcome) → moves_of o ≡ []
    → AllByRecursion IsFloor (answer_by tools c s n (comes_to [] AtEvent o)).edits
unfolding answer_by edits_of
own_edits tools c s n o e =
    appended IsFloor (reserves (n.reserve Nwk) (n.reserve Aps))
    (flat_map (move_edits n) (filter (changes s) (moves_of o))) (are_reserves (n.reserve Nwk) (n.reserve Aps))
    (subst (λ ms. AllByRecursion IsFloor (flat_map (move_edits n) (filter (changes s) ms))) (sym e) tt)

-- the device's timer reserves at most
pub request_edits : (tools : Tools) (c m : Setting) (t : NodeState) (key : Bytes) (sequence : ℕ) (link : Bytes)
    → AreDeclared c m → IsJoined t c.me.eui key sequence link
    → AllByRecursion IsFloor (answer tools m t DoTimer).edits
request_edits tools c m t key sequence link d j =
    let o = requesting.asks (both_spent t) j.keys.row.key in
    subst (λ (a : Answer). AllByRecursion IsFloor a.edits)
    (sym (requesting.request_answer tools c m t key sequence link d j (both_spent t) refl))
    (own_edits tools m t (counting_of m t (comes_to [] AtEvent o)) o
    (requesting.asks_no_moves (both_spent t) j.keys.row.key))

-- the rows end with a row of a partner whose floor is within a bound
pub record EndsLow (p most : ℕ) (rs : List LinkKey) : Type 0 where
  pub front : List LinkKey
  pub row : LinkKey
  pub rows : rs ≡ front ++ row ∷ []
  pub live : is_live_of p row ≡ true
  pub low : row.kept ≤ most

self : (n : ℕ) → nat_eq n n ≡ true
self n = eq-eqb n n refl

row_comes : (p most : ℕ) (key : Bytes) (v : NodeState) → has_link p key v.links ≡ false
    → EndsLow p most (applied_all (Moved (Row p key Unverified) ∷ Moved (Became Offered) ∷ []) v).links
unfolding applied_all applied
row_comes p most key v none = record {
  front = v.links;
  row = new_link p key Unverified (is_told v p);
  rows = rw none refl;
  live = rw (self p) refl;
  low = omega arith;
}

kept_low : (p most : ℕ) (t : Term) (l : Layer) (s : NodeState) → t.counter + 1 ≤ most → EndsLow p most s.links
    → EndsLow p most (after_hearing l t.base t.source t.counter s).links
unfolding after_hearing
kept_low p most t Nwk s lt e = e
kept_low p most t Aps s lt e =
    let f = λ (r : LinkKey). if is_link t.source t.base r then link_kept (t.counter + 1) r else r in
    record {
      front = map f e.front;
      row = f e.row;
      rows = ap (map f) e.rows ∙ map-append f e.front (e.row ∷ []);
      live = live_still (is_link t.source t.base e.row) ∙ e.live;
      low = by_test (is_link t.source t.base e.row);
    }
  where
    live_still : (b : Bool) → is_live_of p (if b then link_kept (t.counter + 1) e.row else e.row)
        ≡ is_live_of p e.row
    live_still true = refl
    live_still false = refl

    by_test : (b : Bool) → (if b then link_kept (t.counter + 1) e.row else e.row).kept ≤ most
    by_test true = lt
    by_test false = e.low

kept_nwk : (p most : ℕ) (t : Term) (x : NodeState) → EndsLow p most x.links
    → EndsLow p most (after_hearing Nwk t.base t.source t.counter x).links
unfolding after_hearing
kept_nwk p most t x a = a

-- an accepted NWK term leaves the link rows, and an APS term the last row's low floor
heard_low : (p most : ℕ) (outer inner : Term) (w : NodeState) → outer.layer ≡ Nwk → inner.layer ≡ Aps
    → inner.counter + 1 ≤ most → EndsLow p most w.links → EndsLow p most (accepted_all (outer ∷ inner ∷ []) w).links
unfolding after_accepting
heard_low p most outer inner w e f lt ends =
    kept_low p most inner inner.layer (after_hearing outer.layer outer.base outer.source outer.counter w) lt
    (subst (λ l. EndsLow p most (after_hearing l outer.base outer.source outer.counter w).links) (sym e)
    (kept_nwk p most outer w ends))

-- the row that is tried first has a low floor
low_tried : (p most : ℕ) (rs : List LinkKey) (tried : LinkKey) → EndsLow p most rs
    → find (is_live_of p) (reverse rs) ≡ Some tried → tried.kept ≤ most
low_tried p most rs tried e first =
    let last : find (is_live_of p) (reverse rs) ≡ Some e.row =
    ap (λ l. find (is_live_of p) (reverse l)) e.rows ∙ ap (find (is_live_of p)) (last_first e.front e.row)
    ∙ rw e.live refl in
    subst (λ (r : LinkKey). r.kept ≤ most) (same e.row tried (sym last ∙ first)) e.low
  where
    same : (a b : LinkKey) → Some a ≡ Some b → a ≡ b
    same a b f = cc

-- what the device has after it kept the offer
pub record KeepsOn (t u : NodeState) (centre most : ℕ) : Type 0 where
  pub nwk : next_counter Nwk u ≡ next_counter Nwk t
  pub low : (tried : LinkKey) → find (is_live_of centre) (reverse u.links) ≡ Some tried → tried.kept ≤ most

kept_on : (tools : Tools) (c m : Setting) (t : NodeState) (k : Seals) (key : Bytes) (n : Counting)
    → filter (changes t) (offering.kept_moves c.me.eui key) ≡ offering.kept_moves c.me.eui key
    → has_link c.me.eui key t.links ≡ false
    → KeepsOn t (answered (answer_by tools m t n (offering.kept_plan tools c m k key)) t) c.me.eui (k.aps + 1)
unfolding answered answer_by out_of may_seal edits_of
kept_on tools c m t k key n gives fresh =
    let p = offering.kept_plan tools c m k key in
    let u = accepted_all p.accepts (applied_all (edits_of t n p) t) in
    let first = reserves (n.reserve Nwk) (n.reserve Aps) in
    let floors = flat_map (floor_edit n) p.accepts in
    let moves = flat_map (move_edits n) (filter (changes t) (offering.kept_moves c.me.eui key)) in
    let v = applied_all floors (applied_all first t) in
    let none : has_link c.me.eui key v.links ≡ false =
    edits_has c.me.eui key floors (applied_all first t) (are_floors n p.accepts)
    ∙ edits_has c.me.eui key first t (are_reserves (n.reserve Nwk) (n.reserve Aps)) ∙ fresh in
    let order : applied_all (edits_of t n p) t
    ≡ applied_all (Moved (Row c.me.eui key Unverified) ∷ Moved (Became Offered) ∷ []) v =
    applied_then first (floors ++ moves) t ∙ applied_then floors moves (applied_all first t)
    ∙ ap (λ ms. applied_all (flat_map (move_edits n) ms) v) gives in
    let f = net_frame c m k in
    let l = offer c m k key in
    let outer = net_term f (sealed_content tools l) in
    let inner = link_term tools l in
    let w = applied_all (edits_of t n p) t in
    let low : k.aps + 1 ≤ k.aps + 1 = omega arith in
    let ends : EndsLow c.me.eui (k.aps + 1) w.links =
    subst (λ (x : NodeState). EndsLow c.me.eui (k.aps + 1) x.links) (sym order)
    (row_comes c.me.eui (k.aps + 1) key v none) in
    let all : EndsLow c.me.eui (k.aps + 1) u.links =
    heard_low c.me.eui (k.aps + 1) outer inner w refl refl low ends in
    record {
      nwk = calm_next t u (calm_answer t n p (subst (AllByRecursion OfLinks) (sym gives) (tt, (tt, tt))));
      low = λ tried first. low_tried c.me.eui (k.aps + 1) u.links tried all first;
    }

pub keep_counts : (tools : Tools) → DeliversCommands tools
    → (c m : Setting) (t : NodeState) (k : Seals) (key : Bytes) (draw : Option Bytes) → AreDeclared c m
    → StationsInRange c m → NwkInRange k → ApsInRange k → length key ≡ 16 → keeps_rules t ≡ true
    → (j : IsJoined t c.me.eui k.key k.sequence k.link) → has_link c.me.eui key t.links ≡ false
    → why_offer_not_kept t c.me.eui k key ≡ None
    → KeepsOn t (after_task tools m t (Received (offer_bytes tools c m k key) draw)) c.me.eui (k.aps + 1)
unfolding after_task answer
keep_counts tools delivers c m t k key draw d st rn ra long rules j fresh none =
    let plan = offering.free_plan tools delivers c m t k key draw d st rn ra long rules j fresh
    (sym (not_kept t c.me.eui k key j) ∙ none) in
    subst (λ q. KeepsOn t (answered (answer_by tools m t (counting_of m t q) q) t) c.me.eui (k.aps + 1)) (sym plan)
    (kept_on tools c m t k key (counting_of m t (offering.kept_plan tools c m k key))
    (offering.gives t c.me.eui key j.joined fresh) fresh)
