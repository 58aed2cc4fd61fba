-- A device that knocked installs a network key that is new to it: it has joined, ready for the exchange of link keys.
use Rattle.std.proofs.Common.{◌≡◌, ℕ, Bool, true, false, not, if◌then◌else◌, List, [], ◌∷◌, ◌++◌, map, filter, length, Option, Some, None, is_some, nat_lt, nat_le, refl, sym, ap, ◌∙◌, subst}
use Rattle.std.specs.List.{AllByRecursion}
use Rattle.std.proofs.lemmas.Bool.{false≢true}
use Rattle.zb_model.specs.Data.{Bytes, Aps, Knocked, Joined, AtAps, AtEvent, Reason, Stale, KeysFull, Move, DropNet, Install, Active, Became, HasChild, Received}
use Rattle.zb_model.specs.Commands.{dropped_at}
use Rattle.zb_model.specs.Fits.{keeps_rules}
use Rattle.zb_model.specs.OwnEvents.{child_of_centre}
use Rattle.zb_model.specs.Rules.{Setting, Plan, Does, drop_old, first_drop, nets_full}
use Rattle.zb_model.specs.State.{NetKey, LinkKey, NodeState, same_key, is_centre, is_active_key, has_net, at_net, dropped_net, new_net, live_nets, next_counter}
use Rattle.zb_model.specs.Tools.{Tools}
use Rattle.zb_model.specs.Answer.{changes, comes_to, answer_by, counting_of, plan_of, answer, answered}
use Rattle.law_change_fits.proofs.Parts.{same_key_is}
use Rattle.law_change_fits.proofs.Tests.{any_map, any_same}
use Rattle.law_recovery.specs.Answering.{after_task}
use Rattle.law_recovery.specs.Joining.{AreIntroduced}
use Rattle.law_recovery.specs.KeyFrames.{KeyFrame, KeyFrameInRange, key_bytes, key_term, DeliversKeys}
use Rattle.law_recovery.specs.Rejoining.{AreOfOneNetwork, answer_frame, why_not_taken, why_old}
use Rattle.law_recovery.proofs.Asking.{child_answer, child_idle}
use Rattle.law_recovery.proofs.Knocking.{facts, same_state}
use Rattle.law_recovery.proofs.Taking.{Facts, delivered, new_moves, outcome_by, plan_by}
use Rattle.law_recovery.specs.Meeting.{HasLink, IsJoined}
use Rattle.law_recovery.proofs.Baring.{bare, bare_net, bare_link, bare_after, moved_all, OfExchange}
use Rattle.law_recovery.proofs.Rows.{new_network}
use Rattle.law_recovery.proofs.Keeping.{nets_of, links_of, active_of, state_of, link_kept}

-- ---- the plan, if nothing prevents it and the key is new

abbrev taken : Tools → NodeState → KeyFrame → Plan
taken tools t f = comes_to (key_term tools f ∷ []) AtAps (Does (new_moves Joined t f) None)

abbrev refused : NodeState → KeyFrame → LinkKey → Bool → Option ℕ → Bool → Bool → Option Reason
refused t f own stale old has full = if stale then Some (Stale own.kept)
    else why_old old (if has then None else (if full then Some KeysFull else None))

new_plan : (tools : Tools) (t : NodeState) (f : KeyFrame) (own : LinkKey) (stale : Bool) (old : Option ℕ)
    (has full : Bool) → has ≡ false → refused t f own stale old has full ≡ None
    → plan_by tools f own stale (outcome_by Joined t f old has full) ≡ taken tools t f
new_plan tools t f own true old has full fresh e = absurd (false≢true (sym (ap is_some e)))
new_plan tools t f own false (Some place) has full fresh e = absurd (false≢true (sym (ap is_some e)))
new_plan tools t f own false None true full fresh e = absurd (false≢true (sym fresh))
new_plan tools t f own false None false true fresh e = absurd (false≢true (sym (ap is_some e)))
new_plan tools t f own false None false false fresh e = refl

free_plan : (tools : Tools) (m : Setting) (t : NodeState) (f : KeyFrame) (own : LinkKey) (draw : Option Bytes)
    → Facts tools m Knocked Joined t f own → t.state ≡ Knocked → has_net f.key t.nets ≡ false
    → why_not_taken t own f.counter f.key ≡ None
    → plan_of tools m t (Received (key_bytes tools f) draw) ≡ taken tools t f
unfolding why_not_taken
free_plan tools m t f own draw x knocked fresh none =
    subst (λ u. plan_of tools m u (Received (key_bytes tools f) draw) ≡ taken tools t f) (same_state t knocked)
    (delivered tools m Knocked Joined t f own draw x ∙ new_plan tools t f own (nat_lt f.counter own.kept)
    (dropped_at 0 f.key t.nets) (has_net f.key t.nets) (nets_full t) fresh none)

-- ---- its changes

abbrev last_moves : Bytes → ℕ → List Move
last_moves key sequence = Install key sequence ∷ Active key ∷ Became Joined ∷ []

-- the state after the last two moves
record Leads (t : NodeState) (key : Bytes) (sequence : ℕ) (ms : List Move) : Type 0 where
  of : AllByRecursion OfExchange ms
  rows : List NetKey
  nets : has_net key t.nets ≡ false → (moved_all ms (bare t)).nets ≡ rows ++ new_net key sequence ∷ []
  fresh : has_net key t.nets ≡ false → has_net key rows ≡ false
  active : (moved_all ms (bare t)).active ≡ Some key
  links : (moved_all ms (bare t)).links ≡ map bare_link t.links
  state : (moved_all ms (bare t)).state ≡ Joined

bare_has : (key : Bytes) (rs : List NetKey) → has_net key (map bare_net rs) ≡ has_net key rs
bare_has key rs = any_map (λ (r : NetKey). same_key r.key key) bare_net rs

dropped_has : (key old : Bytes) (rs : List NetKey) → has_net key (at_net old dropped_net rs) ≡ has_net key rs
dropped_has key old rs =
    any_map (λ (r : NetKey). same_key r.key key) (λ (r : NetKey). if same_key r.key old then dropped_net r else r) rs
    ∙ any_same (λ (r : NetKey). same_key (if same_key r.key old then dropped_net r else r).key key)
    (λ (r : NetKey). same_key r.key key) (λ r. by_test (same_key r.key old) r) rs
  where
    by_test : (b : Bool) (r : NetKey) → same_key (if b then dropped_net r else r).key key ≡ same_key r.key key
    by_test true r = refl
    by_test false r = refl

kept_key : (o : Option Bytes) (key : Bytes) → is_active_key o key ≡ true → o ≡ Some key
kept_key None key e = absurd (false≢true e)
kept_key (Some a) key e = ap Some (same_key_is a key e)

last_leads : (t : NodeState) (key : Bytes) (sequence : ℕ) (b : Bool) → is_active_key t.active key ≡ b
    → Leads t key sequence
    (Install key sequence ∷ (if not b then Active key ∷ Became Joined ∷ [] else Became Joined ∷ []))
unfolding bare
last_leads t key sequence true e = record {
  of = (tt, (tt, tt));
  rows = map bare_net t.nets;
  nets = λ fresh. rw (bare_has key t.nets ∙ fresh) refl;
  fresh = λ fresh. bare_has key t.nets ∙ fresh;
  active = kept_key t.active key e;
  links = refl;
  state = refl;
}
last_leads t key sequence false e = record {
  of = (tt, (tt, (tt, tt)));
  rows = map bare_net t.nets;
  nets = λ fresh. rw (bare_has key t.nets ∙ fresh) refl;
  fresh = λ fresh. bare_has key t.nets ∙ fresh;
  active = refl;
  links = refl;
  state = refl;
}

drop_leads : (t : NodeState) (old key : Bytes) (sequence : ℕ) (b : Bool) → is_active_key t.active key ≡ b
    → Leads t key sequence
    (DropNet old ∷ Install key sequence ∷ (if not b then Active key ∷ Became Joined ∷ [] else Became Joined ∷ []))
unfolding bare
drop_leads t old key sequence true e = record {
  of = (tt, (tt, (tt, tt)));
  rows = at_net old dropped_net (map bare_net t.nets);
  nets = λ fresh. rw (dropped_has key old (map bare_net t.nets) ∙ bare_has key t.nets ∙ fresh) refl;
  fresh = λ fresh. dropped_has key old (map bare_net t.nets) ∙ bare_has key t.nets ∙ fresh;
  active = kept_key t.active key e;
  links = refl;
  state = refl;
}
drop_leads t old key sequence false e = record {
  of = (tt, (tt, (tt, (tt, tt))));
  rows = at_net old dropped_net (map bare_net t.nets);
  nets = λ fresh. rw (dropped_has key old (map bare_net t.nets) ∙ bare_has key t.nets ∙ fresh) refl;
  fresh = λ fresh. dropped_has key old (map bare_net t.nets) ∙ bare_has key t.nets ∙ fresh;
  active = refl;
  links = refl;
  state = refl;
}

first_leads : (t : NodeState) (key : Bytes) (sequence : ℕ) (rs : List NetKey) (b : Bool) → is_active_key t.active key
    ≡ b → (c : Bool) → c ≡ true
    → Leads t key sequence
    (filter (changes t) (first_drop rs) ++ Install key sequence
    ∷ (if not b then Active key ∷ (if c then Became Joined ∷ [] else [])
    else (if c then Became Joined ∷ [] else [])))
first_leads t key sequence [] b e c d = rw d (last_leads t key sequence b e)
first_leads t key sequence (r ∷ rs) b e c d = rw d (drop_leads t r.key key sequence b e)

filter_first : (t : NodeState) (rs : List NetKey) (rest : List Move) → filter (changes t) (first_drop rs ++ rest)
    ≡ filter (changes t) (first_drop rs) ++ filter (changes t) rest
filter_first t [] rest = refl
filter_first t (r ∷ rs) rest = refl

becomes : (t : NodeState) → t.state ≡ Knocked → changes t (Became Joined) ≡ true
becomes t e = rw e refl

all_leads : (t : NodeState) (f : KeyFrame) → t.state ≡ Knocked
    → Leads t f.key f.sequence (filter (changes t) (new_moves Joined t f))
unfolding drop_old
all_leads t f knocked = by_test (nat_le 2 (length (live_nets t)))
  where
    by_test : (b : Bool)
        → Leads t f.key f.sequence
        (filter (changes t)
        ((if b then first_drop (filter (λ (r : NetKey). not (is_active_key t.active r.key)) (live_nets t)) else [])
        ++ last_moves f.key f.sequence))
    by_test true =
        let rs = filter (λ (r : NetKey). not (is_active_key t.active r.key)) (live_nets t) in
        subst (Leads t f.key f.sequence) (sym (filter_first t rs (last_moves f.key f.sequence)))
        (first_leads t f.key f.sequence rs (is_active_key t.active f.key) refl (changes t (Became Joined))
        (becomes t knocked))
    by_test false = first_leads t f.key f.sequence [] (is_active_key t.active f.key) refl (changes t (Became Joined))
        (becomes t knocked)

-- ---- all of it

pub is_joined : (tools : Tools) → DeliversKeys tools → (c m : Setting) (s t : NodeState) → AreOfOneNetwork c m
    → (l : AreIntroduced c m s t) → KeyFrameInRange (answer_frame c m s l.net l.row) → keeps_rules t ≡ true
    → (draw : Option Bytes)
    → why_not_taken t l.own (next_counter Aps s) l.net.key ≡ None → has_net l.net.key t.nets ≡ false
    → IsJoined (after_task tools m t (Received (key_bytes tools (answer_frame c m s l.net l.row)) draw)) c.me.eui
    l.net.key l.net.sequence l.row.key
unfolding after_task answer
is_joined tools delivers c m s t o l range rules draw none fresh =
    let f = answer_frame c m s l.net l.row in
    let p = taken tools t f in
    let plan = free_plan tools m t f l.own draw (facts tools delivers c m s t o l range rules) l.knocked fresh none in
    let u = answered (answer_by tools m t (counting_of m t p) p) t in
    let ms = filter (changes t) (new_moves Joined t f) in
    let leads = all_leads t f l.knocked in
    let rows : bare u ≡ moved_all ms (bare t) = bare_after tools m t (counting_of m t p) p ms refl leads.of in
    let joined : u.state ≡ Joined = state_of u (moved_all ms (bare t)) rows ∙ leads.state in
    let link : HasLink t c.me.eui l.row.key =
    record { row = l.own; is_current = l.at_device; row_key = l.same_key; none_offered = l.no_offer } in
    subst (λ q. IsJoined (answered (answer_by tools m t (counting_of m t q) q) t) c.me.eui l.net.key l.net.sequence
    l.row.key) (sym plan)
    (record {
      network = new_network u leads.rows l.net.key l.net.sequence
          (nets_of u (moved_all ms (bare t)) rows ∙ leads.nets fresh)
          (active_of u (moved_all ms (bare t)) rows ∙ leads.active) (rw joined refl) (leads.fresh fresh);
      joined = joined;
      keys = link_kept t u c.me.eui l.row.key link (links_of u (moved_all ms (bare t)) rows ∙ leads.links);
    })

-- the centre's answer leaves its bare rows
pub child_bare : (tools : Tools) (c : Setting) (s : NodeState) (device : ℕ) (rejoin : Bool) → is_centre c.me.role
    ≡ true → bare (after_task tools c s (HasChild device rejoin)) ≡ bare s
unfolding after_task
child_bare tools c s device rejoin role =
    let o = child_of_centre c s device in
    ap (λ a. bare (answered a s)) (child_answer tools c s device rejoin o role refl)
    ∙ bare_after tools c s (counting_of c s (comes_to [] AtEvent o)) (comes_to [] AtEvent o) []
    (ap (filter (changes s)) (child_idle c s device)) tt
