-- Terms that are accepted or sealed change only the counters and floors in memory, which no rule for records
-- mentions.
use Rattle.std.proofs.Common.{◌≡◌, ℕ, ◌+◌, List, [], ◌∷◌, length, refl, ap, ◌∙◌, arith, Bool, true, false, if◌then◌else◌}
use Rattle.std.specs.Prelude.{nat_lt, nat_le, nat_eq}
use Rattle.std.specs.List.{list_all}
use Rattle.std.proofs.lemmas.List.{length-map}
use Rattle.zb_model.specs.Data.{Bytes, Role, Layer, Nwk, Aps, Term}
use Rattle.zb_model.specs.State.{SenderFloor, NetKey, LinkKey, NodeState, same_key, is_link, at_net, at_link, next_at, sealed_at, after_sealing, floor_kept, net_kept, link_kept, after_hearing, after_accepting}
use Rattle.zb_model.specs.Fits.{keeps_rules, most_senders, senders_ascend, active_is_live, role_is_kept}
use Rattle.zb_model.specs.Answer.{accepted_all, sealed_all}
use Rattle.law_change_fits.proofs.Tests.{both, all_map, apart_map}
use Rattle.law_change_fits.proofs.Parts.{Rules, rules_of, rules_back, floors_rule, links_alike, kinds_alike, told_apart, link_rule}
use Rattle.law_change_fits.proofs.Nets.{Mild, mild_at, mild_kept}
use Rattle.law_change_fits.proofs.Links.{LinkRules, link_rules, links_kept}
use Rattle.law_answer_storable.proofs.Bare.{bare_link}

-- floors in memory

abbrev in_memory : ℕ → ℕ → SenderFloor → SenderFloor
in_memory sender kept f = if nat_eq f.sender sender then record f { kept = kept } else f

stored_left : (sender kept : ℕ) (f : SenderFloor) → nat_lt 0 f.stored ≡ true
    → nat_lt 0 (in_memory sender kept f).stored ≡ true
stored_left sender kept f e = by_test (nat_eq f.sender sender) e
  where
    by_test : (b : Bool) → nat_lt 0 f.stored ≡ true → nat_lt 0 (if b then record f { kept = kept } else f).stored
        ≡ true
    by_test true e = e
    by_test false e = e

above_left : (low : ℕ) (sender kept : ℕ) (f : SenderFloor) → nat_lt low f.sender ≡ true
    → nat_lt low (in_memory sender kept f).sender ≡ true
above_left low sender kept f e = by_test (nat_eq f.sender sender) e
  where
    by_test : (b : Bool) → nat_lt low f.sender ≡ true → nat_lt low (if b then record f { kept = kept } else f).sender
        ≡ true
    by_test true e = e
    by_test false e = e

sender_left : (sender kept : ℕ) (f : SenderFloor) → (in_memory sender kept f).sender ≡ f.sender
sender_left sender kept f = by_test (nat_eq f.sender sender)
  where
    by_test : (b : Bool) → (if b then record f { kept = kept } else f).sender ≡ f.sender
    by_test true = refl
    by_test false = refl

ascend_left : (sender kept : ℕ) (fs : List SenderFloor) → senders_ascend fs ≡ true
    → senders_ascend (floor_kept sender kept fs) ≡ true
ascend_left sender kept [] e = refl
ascend_left sender kept (f ∷ fs) e =
    let parts = both (list_all (λ (g : SenderFloor). nat_lt f.sender g.sender) fs) (senders_ascend fs) e in
    let first : list_all (λ (g : SenderFloor). nat_lt (in_memory sender kept f).sender g.sender)
    (floor_kept sender kept fs) ≡ true =
    ap (λ n. list_all (λ (g : SenderFloor). nat_lt n g.sender) (floor_kept sender kept fs)) (sender_left sender kept f)
    ∙ all_map (λ (g : SenderFloor). nat_lt f.sender g.sender) (λ (g : SenderFloor). nat_lt f.sender g.sender)
    (in_memory sender kept) (above_left f.sender sender kept) fs parts.0 in
    rw first (ascend_left sender kept fs parts.1)

floors_left : (sender kept : ℕ) (r : NetKey) → floors_rule r ≡ true → floors_rule (net_kept sender kept r) ≡ true
floors_left sender kept r e =
    let parts = both (nat_le (length r.floors) most_senders) _ e in
    let more = both (list_all (λ (f : SenderFloor). nat_lt 0 f.stored) r.floors) (senders_ascend r.floors) parts.1 in
    let room : nat_le (length (floor_kept sender kept r.floors)) most_senders ≡ true =
    ap (λ n. nat_le n most_senders) (length-map r.floors (in_memory sender kept)) ∙ parts.0 in
    let stored : list_all (λ (f : SenderFloor). nat_lt 0 f.stored) (floor_kept sender kept r.floors) ≡ true =
    all_map (λ (f : SenderFloor). nat_lt 0 f.stored) (λ (f : SenderFloor). nat_lt 0 f.stored) (in_memory sender kept)
    (stored_left sender kept) r.floors more.0 in
    rw (room, stored) (ascend_left sender kept r.floors more.1)

at_floors : (key : Bytes) (f : NetKey → NetKey) → ((r : NetKey) → floors_rule r ≡ true → floors_rule (f r) ≡ true)
    → (nets : List NetKey) → list_all floors_rule nets ≡ true → list_all floors_rule (at_net key f nets) ≡ true
at_floors key f each nets all = all_map floors_rule floors_rule (λ (r : NetKey). if same_key r.key key then f r
    else r) (λ r e. by_test (same_key r.key key) r e) nets all
  where
    by_test : (b : Bool) (r : NetKey) → floors_rule r ≡ true → floors_rule (if b then f r else r) ≡ true
    by_test true r e = each r e
    by_test false r e = e

nets_left : (key : Bytes) (f : NetKey → NetKey) → Mild f
    → ((r : NetKey) → floors_rule r ≡ true → floors_rule (f r) ≡ true) → (s : NodeState) → Rules s
    → keeps_rules (record s { nets = at_net key f s.nets }) ≡ true
nets_left key f mild each s r = mild_kept (λ (x : NetKey). if same_key x.key key then f x else x) (mild_at key f mild)
    s r (at_floors key f each s.nets r.floors)

heard_links : (partner : ℕ) (key : Bytes) (kept : ℕ) (role : Role) (links : List LinkKey) → LinkRules role links
    → LinkRules role (at_link partner key (link_kept kept) links)
heard_links partner key kept role links l = record {
  room = omega (arith, l.room, length-map links at);
  keys = apart_map links_alike links_alike at
      (λ a b e. ap (λ (x : LinkKey). links_alike x (at b)) (each a) ∙ ap (λ (x : LinkKey). links_alike a x) (each b) ∙
      e) links l.keys;
  kinds =
      apart_map kinds_alike kinds_alike at
      (λ a b e. ap (λ (x : LinkKey). kinds_alike x (at b)) (each a) ∙ ap (λ (x : LinkKey). kinds_alike a x) (each b) ∙
      e) links l.kinds;
  told = apart_map told_apart told_apart at
      (λ a b e. ap (λ (x : LinkKey). told_apart x (at b)) (each a) ∙ ap (λ (x : LinkKey). told_apart a x) (each b) ∙
      e) links l.told;
  marks = all_map (link_rule role) (link_rule role) at (λ r e. ap (λ (x : LinkKey). link_rule role x) (each r) ∙ e)
      links l.marks;
}
  where
    at : LinkKey → LinkKey
    at r = if is_link partner key r then link_kept kept r else r

    each : (r : LinkKey) → bare_link (if is_link partner key r then link_kept kept r else r) ≡ bare_link r
    each r = by_test (is_link partner key r)
      where
        by_test : (b : Bool) → bare_link (if b then link_kept kept r else r) ≡ bare_link r
        by_test true = refl
        by_test false = refl

-- an accepted term, and a sealed one

heard : (layer : Layer) (key : Bytes) (sender counter : ℕ) (s : NodeState) → keeps_rules s ≡ true
    → keeps_rules (after_hearing layer key sender counter s) ≡ true
unfolding after_hearing
heard Nwk key sender counter s kept =
    nets_left key (net_kept sender (counter + 1)) (record { key = λ r. refl; live = λ r. refl; limit = λ r e. e })
    (floors_left sender (counter + 1)) s (rules_of s kept)
heard Aps key sender counter s kept =
    links_kept s (at_link sender key (link_kept (counter + 1)) s.links) (rules_of s kept)
    (heard_links sender key (counter + 1) s.role s.links (link_rules s (rules_of s kept)))

accepted : (t : Term) (s : NodeState) → keeps_rules s ≡ true → keeps_rules (after_accepting t s) ≡ true
unfolding after_accepting
accepted t s kept = heard t.layer t.base t.source t.counter s kept

sealed_in : (layer : Layer) (t : Term) (s : NodeState) → keeps_rules s ≡ true → keeps_rules (sealed_at layer t s)
    ≡ true
unfolding role_is_kept active_is_live
sealed_in Nwk t s kept = nets_left t.base (next_at (t.counter + 1))
    (record { key = λ r. refl; live = λ r. refl; limit = λ r e. e }) (λ r e. e) s (rules_of s kept)
sealed_in Aps t s kept =
    let r = rules_of s kept in
    rules_back (record s { aps_next = t.counter + 1 }) (record {
      nets_room = r.nets_room;
      links_room = r.links_room;
      pairs_room = r.pairs_room;
      net_keys = r.net_keys;
      link_keys = r.link_keys;
      two = r.two;
      active = r.active;
      kinds = r.kinds;
      told = r.told;
      marks = r.marks;
      floors = r.floors;
      limits = r.limits;
      role_kept = r.role_kept;
      pairs = r.pairs;
      pair_names = r.pair_names;
    })

sealed : (t : Term) (s : NodeState) → keeps_rules s ≡ true → keeps_rules (after_sealing t s) ≡ true
unfolding after_sealing
sealed t s kept = sealed_in t.layer t s kept

pub kept_accepted : (ts : List Term) (s : NodeState) → keeps_rules s ≡ true → keeps_rules (accepted_all ts s) ≡ true
kept_accepted [] s kept = kept
kept_accepted (t ∷ ts) s kept = kept_accepted ts (after_accepting t s) (accepted t s kept)

pub kept_sealed : (ts : List Term) (s : NodeState) → keeps_rules s ≡ true → keeps_rules (sealed_all ts s) ≡ true
kept_sealed [] s kept = kept
kept_sealed (t ∷ ts) s kept = kept_sealed ts (after_sealing t s) (sealed t s kept)
