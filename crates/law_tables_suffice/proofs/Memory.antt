-- Accepted terms, seals and boots change only what is in memory: the rules for records and the role stay.
use Rattle.std.proofs.Common.{◌≡◌, ℕ, ◌+◌, List, [], ◌∷◌, length, map, refl, ap, ◌∙◌, arith, Bool, true, false, if◌then◌else◌, ◌&&◌, nat_eq, nat_lt, nat_le}
use Rattle.std.specs.List.{list_all}
use Rattle.std.proofs.lemmas.List.{length-map}
use Rattle.zb_model.specs.Data.{Bytes, Role, Layer, Nwk, Aps, Term}
use Rattle.zb_model.specs.State.{NodeState, SenderFloor, NetKey, LinkKey, same_key, is_link, at_net, next_at, sealed_at, after_sealing, net_kept, link_kept, after_hearing, after_accepting, after_boot}
use Rattle.zb_model.specs.Fits.{keeps_rules, rows_have_room, keys_differ, at_most_two_live, active_is_live, partners_agree, links_are_marked, floors_are_kept, limits_are_started, role_is_kept, pairs_are_kept, most_senders, senders_ascend}
use Rattle.law_run.proofs.StoredFits.{rules_same}
use Rattle.law_change_fits.proofs.Tests.{all_map, apart_map}
use Rattle.law_change_fits.proofs.Parts.{rules_of, floors_rule, links_alike, kinds_alike, told_apart, link_rule}
use Rattle.law_change_fits.proofs.Nets.{Mild, mild_kept, mild_at}
use Rattle.law_change_fits.proofs.Links.{LinkRules, link_rules, links_kept}

-- ---- link rows

abbrev bare : LinkKey → LinkKey
bare r = record r { kept = 0; stored = 0 }

bare_kept : (g : LinkKey → LinkKey) → ((r : LinkKey) → bare (g r) ≡ bare r) → (role : Role) (links : List LinkKey)
    → LinkRules role links → LinkRules role (map g links)
bare_kept g each role links l = record {
  room = omega (arith, l.room, length-map links g);
  keys = apart_map links_alike links_alike g
      (λ a b e. ap (λ (x : LinkKey). links_alike x (g b)) (each a) ∙ ap (λ (x : LinkKey). links_alike a x) (each b) ∙
      e) links l.keys;
  kinds =
      apart_map kinds_alike kinds_alike g
      (λ a b e. ap (λ (x : LinkKey). kinds_alike x (g b)) (each a) ∙ ap (λ (x : LinkKey). kinds_alike a x) (each b) ∙
      e) links l.kinds;
  told = apart_map told_apart told_apart g
      (λ a b e. ap (λ (x : LinkKey). told_apart x (g b)) (each a) ∙ ap (λ (x : LinkKey). told_apart a x) (each b) ∙ e)
      links l.told;
  marks = all_map (link_rule role) (link_rule role) g (λ r e. ap (λ (x : LinkKey). link_rule role x) (each r) ∙ e)
      links l.marks;
}

links_ruled : (g : LinkKey → LinkKey) → ((r : LinkKey) → bare (g r) ≡ bare r) → (s : NodeState) → keeps_rules s ≡ true
    → keeps_rules (record s { links = map g s.links }) ≡ true
links_ruled g each s kept = let r = rules_of s kept in links_kept s (map g s.links) r
    (bare_kept g each s.role s.links (link_rules s r))

-- ---- network rows

-- a floor that changes only in memory
abbrev unkept : SenderFloor → SenderFloor
unkept f = record f { kept = 0 }

every : {X : Type 0} (test : X → Bool) (f : X → X) → ((x : X) → test (f x) ≡ test x) → (xs : List X)
    → list_all test (map f xs) ≡ list_all test xs
every test f same [] = refl
every test f same (x ∷ xs) = ap (λ (b : Bool). b && list_all test (map f xs)) (same x) ∙ ap
    (λ (b : Bool). test x && b) (every test f same xs)

ascend_same : (g : SenderFloor → SenderFloor) → ((f : SenderFloor) → unkept (g f) ≡ unkept f)
    → (fs : List SenderFloor) → senders_ascend (map g fs) ≡ senders_ascend fs
ascend_same g each [] = refl
ascend_same g each (f ∷ fs) =
    ap (λ (b : Bool). b && senders_ascend (map g fs))
    (every (λ (x : SenderFloor). nat_lt (g f).sender x.sender) g
    (λ x. ap (λ (y : SenderFloor). nat_lt (g f).sender y.sender) (each x)) fs)
    ∙ ap (λ (n : ℕ). list_all (λ (x : SenderFloor). nat_lt n x.sender) fs && senders_ascend (map g fs))
    (ap (λ (y : SenderFloor). y.sender) (each f))
    ∙ ap (λ (b : Bool). list_all (λ (x : SenderFloor). nat_lt f.sender x.sender) fs && b) (ascend_same g each fs)

floors_same : (g : SenderFloor → SenderFloor) → ((f : SenderFloor) → unkept (g f) ≡ unkept f) → (r : NetKey)
    → floors_rule (record r { floors = map g r.floors }) ≡ floors_rule r
floors_same g each r =
    ap (λ (n : ℕ). nat_le n most_senders
    && (list_all (λ (f : SenderFloor). nat_lt 0 f.stored) (map g r.floors) && senders_ascend (map g r.floors)))
    (length-map r.floors g)
    ∙ ap (λ (b : Bool). nat_le (length r.floors) most_senders && (b && senders_ascend (map g r.floors)))
    (every (λ (f : SenderFloor). nat_lt 0 f.stored) g (λ f. ap (λ (y : SenderFloor). nat_lt 0 y.stored) (each f))
    r.floors)
    ∙ ap (λ (b : Bool). nat_le (length r.floors) most_senders
    && (list_all (λ (f : SenderFloor). nat_lt 0 f.stored) r.floors && b)) (ascend_same g each r.floors)

pub nets_ruled : (f : NetKey → NetKey) → Mild f → ((r : NetKey) → floors_rule (f r) ≡ floors_rule r) → (s : NodeState)
    → keeps_rules s ≡ true → keeps_rules (record s { nets = map f s.nets }) ≡ true
nets_ruled f mild floors s kept = let r =
    rules_of s kept in mild_kept f mild s r (all_map floors_rule floors_rule f (λ x e. floors x ∙ e) s.nets r.floors)

at_ruled : (key : Bytes) (f : NetKey → NetKey) → Mild f → ((r : NetKey) → floors_rule (f r) ≡ floors_rule r)
    → (s : NodeState) → keeps_rules s ≡ true → keeps_rules (record s { nets = at_net key f s.nets }) ≡ true
at_ruled key f mild floors s kept = nets_ruled (λ (r : NetKey). if same_key r.key key then f r
    else r) (mild_at key f mild) (λ r. at_test (same_key r.key key) r) s kept
  where
    at_test : (b : Bool) (r : NetKey) → floors_rule (if b then f r else r) ≡ floors_rule r
    at_test true r = floors r
    at_test false r = refl

-- ---- what lines do in memory

kept_floors : (sender kept : ℕ) (r : NetKey) → floors_rule (net_kept sender kept r) ≡ floors_rule r
kept_floors sender kept r = floors_same (λ (f : SenderFloor). if nat_eq f.sender sender then record f { kept = kept }
    else f) (λ f. at_test (nat_eq f.sender sender) f) r
  where
    at_test : (b : Bool) (f : SenderFloor) → unkept (if b then record f { kept = kept } else f) ≡ unkept f
    at_test true f = refl
    at_test false f = refl

heard_ruled : (layer : Layer) (key : Bytes) (sender counter : ℕ) (s : NodeState) → keeps_rules s ≡ true
    → keeps_rules (after_hearing layer key sender counter s) ≡ true
unfolding after_hearing
heard_ruled Nwk key sender counter s kept = at_ruled key (net_kept sender (counter + 1))
    (record { key = λ r. refl; live = λ r. refl; limit = λ r e. e }) (kept_floors sender (counter + 1)) s kept
heard_ruled Aps key sender counter s kept =
    links_ruled (λ (r : LinkKey). if is_link sender key r then link_kept (counter + 1) r
    else r) (λ r. at_test (is_link sender key r) r) s kept
  where
    at_test : (b : Bool) (r : LinkKey) → bare (if b then link_kept (counter + 1) r else r) ≡ bare r
    at_test true r = refl
    at_test false r = refl

pub accepted_ruled : (t : Term) (s : NodeState) → keeps_rules s ≡ true → keeps_rules (after_accepting t s) ≡ true
unfolding after_accepting
accepted_ruled t s kept = heard_ruled t.layer t.base t.source t.counter s kept

-- no rule mentions the next counter at APS
next_unruled : (s : NodeState) (next : ℕ) → keeps_rules (record s { aps_next = next }) ≡ keeps_rules s
unfolding keeps_rules rows_have_room keys_differ at_most_two_live active_is_live partners_agree links_are_marked
    floors_are_kept limits_are_started role_is_kept pairs_are_kept
next_unruled s next = refl

sealed_by : (layer : Layer) (t : Term) (s : NodeState) → keeps_rules s ≡ true → keeps_rules (sealed_at layer t s)
    ≡ true
sealed_by Nwk t s kept = at_ruled t.base (next_at (t.counter + 1))
    (record { key = λ r. refl; live = λ r. refl; limit = λ r e. e }) (λ r. refl) s kept
sealed_by Aps t s kept = next_unruled s (t.counter + 1) ∙ kept

pub sealed_ruled : (t : Term) (s : NodeState) → keeps_rules s ≡ true → keeps_rules (after_sealing t s) ≡ true
unfolding after_sealing
sealed_ruled t s kept = sealed_by t.layer t s kept

pub booted_ruled : (s : NodeState) → keeps_rules s ≡ true → keeps_rules (after_boot s) ≡ true
booted_ruled s kept = rules_same s ∙ kept

-- ---- the role

heard_role : (layer : Layer) (key : Bytes) (sender counter : ℕ) (s : NodeState)
    → (after_hearing layer key sender counter s).role ≡ s.role
unfolding after_hearing
heard_role Nwk key sender counter s = refl
heard_role Aps key sender counter s = refl

pub accepted_role : (t : Term) (s : NodeState) → (after_accepting t s).role ≡ s.role
unfolding after_accepting
accepted_role t s = heard_role t.layer t.base t.source t.counter s

sealed_by_role : (layer : Layer) (t : Term) (s : NodeState) → (sealed_at layer t s).role ≡ s.role
sealed_by_role Nwk t s = refl
sealed_by_role Aps t s = refl

pub sealed_role : (t : Term) (s : NodeState) → (after_sealing t s).role ≡ s.role
unfolding after_sealing
sealed_role t s = sealed_by_role t.layer t s

pub booted_role : (s : NodeState) → (after_boot s).role ≡ s.role
unfolding after_boot
booted_role s = refl
