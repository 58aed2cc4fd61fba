-- The rules for records stand where rows change only in what they do not speak of.
use Rattle.std.proofs.Common.{◌≡◌, ℕ, List, [], ◌∷◌, length, map, filter, refl, ap, ◌∙◌, Bool, true, false, not, if◌then◌else◌, ◌&&◌, ◌||◌, Option, Some, None}
use Rattle.std.specs.Prelude.{find, nat_le, nat_lt, nat_eq}
use Rattle.std.specs.List.{list_any, list_all}
use Rattle.std.proofs.lemmas.List.{length-map}
use Rattle.zb_model.specs.Data.{Bytes, Role, Move, Draw, DropNet, DropLink, Install, Active, Row, Pair, Became, Live, Removed, Roll, Told, Untold, Edit, Reserve, Floor, Start, Moved}
use Rattle.zb_model.specs.State.{NodeState, SenderFloor, NetKey, LinkKey, booted_floor, booted_net, same_key, live_nets, shown, applied, net_kept, floor_kept, is_centre, is_provisional, is_unverified}
use Rattle.zb_model.specs.Fits.{keeps_rules, rows_have_room, keys_differ, at_most_two_live, active_is_live, partners_agree, links_are_marked, floors_are_kept, limits_are_started, role_is_kept, pairs_are_kept, senders_ascend, most_senders, row_is_live, all_apart, like_rows, same_bool, most_links, fits, may_change}
use Rattle.std.proofs.lemmas.List.Folds.{list_all-map}
use Rattle.law_change_fits.proofs.Tests.{any_same}
use Rattle.law_change_fits.proofs.Shown.{rules_shown}
use Rattle.zb_keys.proofs.Mapping.{list_any-map}
use Rattle.zb_keys.proofs.ShownLemmas.{filter-map}
use Rattle.zb_keys.proofs.StateLemmas.{both, rules_of, rules_back}

abbrev pub floors_rule : NetKey → Bool
floors_rule r = nat_le (length r.floors) most_senders
    && (list_all (λ (f : SenderFloor). nat_lt 0 f.stored) r.floors && senders_ascend r.floors)

abbrev pub limit_rule : NetKey → Bool
limit_rule r = r.started || nat_eq r.limit 0

pub filter_same_tests : {X : Type 0} (p q : X → Bool) → ((x : X) → p x ≡ q x) → (xs : List X) → filter p xs
    ≡ filter q xs
filter_same_tests p q each [] = refl
filter_same_tests p q each (x ∷ xs) =
    ap (λ b. if b then x ∷ filter p xs else filter p xs) (each x) ∙ ap (λ l. if q x then x ∷ l
    else l) (filter_same_tests p q each xs)

pub apart_map : {X : Type 0} (alike : X → X → Bool) (g : X → X) → ((a b : X) → alike (g a) (g b) ≡ alike a b)
    → (xs : List X) → all_apart alike (map g xs) ≡ all_apart alike xs
apart_map alike g each [] = refl
apart_map alike g each (x ∷ xs) =
    let first : list_any (alike (g x)) (map g xs) ≡ list_any (alike x) xs = list_any-map (alike (g x)) g xs ∙ any_same
    (λ y. alike (g x) (g y)) (alike x) (λ y. each x y) xs in
    ap (λ b. not b && all_apart alike (map g xs)) first ∙ ap (λ b. not (list_any (alike x) xs) && b)
    (apart_map alike g each xs)

pub all_map : {X : Type 0} (p : X → Bool) (g : X → X) → ((x : X) → p x ≡ true → p (g x) ≡ true) → (xs : List X)
    → list_all p xs ≡ true → list_all p (map g xs) ≡ true
all_map p g each [] e = refl
all_map p g each (x ∷ xs) e =
    let parts = both (p x) (list_all p xs) e in
    rw (each x parts.0) (all_map p g each xs parts.1)

-- a change of network rows of which the rules say nothing
pub record Mild (g : NetKey → NetKey) : Type 0 where
  pub key : (r : NetKey) → (g r).key ≡ r.key
  pub live : (r : NetKey) → (g r).live ≡ r.live
  pub limit : (r : NetKey) → limit_rule r ≡ true → limit_rule (g r) ≡ true
  pub floors : (r : NetKey) → floors_rule r ≡ true → floors_rule (g r) ≡ true

found_live : (g : NetKey → NetKey) → Mild g → (key : Bytes) (nets : List NetKey)
    → row_is_live (find (λ (r : NetKey). same_key r.key key) (map g nets))
    ≡ row_is_live (find (λ (r : NetKey). same_key r.key key) nets)
found_live g mild key [] = refl
found_live g mild key (r ∷ rs) =
    ap (λ k. row_is_live (if same_key k key then Some (g r)
    else find (λ (x : NetKey). same_key x.key key) (map g rs))) (mild.key r)
    ∙ at_test (same_key r.key key) (found_live g mild key rs)
  where
    at_test : (b : Bool) → row_is_live (find (λ (x : NetKey). same_key x.key key) (map g rs))
        ≡ row_is_live (find (λ (x : NetKey). same_key x.key key) rs)
        → row_is_live (if b then Some (g r) else find (λ (x : NetKey). same_key x.key key) (map g rs))
        ≡ row_is_live (if b then Some r else find (λ (x : NetKey). same_key x.key key) rs)
    at_test true e = mild.live r
    at_test false e = e

still_active : (g : NetKey → NetKey) → Mild g → (s : NodeState) (active : Option Bytes) → s.active ≡ active
    → active_is_live s ≡ true → active_is_live (record s { nets = map g s.nets }) ≡ true
unfolding active_is_live
still_active g mild s None none kept = rw none refl
still_active g mild s (Some key) is kept = rw is (found_live g mild key s.nets ∙ rw is at kept)

pub kept_by_map : (g : NetKey → NetKey) → Mild g → (s : NodeState) → keeps_rules s ≡ true
    → keeps_rules (record s { nets = map g s.nets }) ≡ true
unfolding rows_have_room keys_differ at_most_two_live partners_agree links_are_marked floors_are_kept
    limits_are_started role_is_kept pairs_are_kept
kept_by_map g mild s kept =
    let r = rules_of s kept in
    let alike : (a b : NetKey) → same_key (g a).key (g b).key ≡ same_key a.key b.key =
    λ a b. ap (λ k. same_key k (g b).key) (mild.key a) ∙ ap (same_key a.key) (mild.key b) in
    let keys : all_apart (λ (a b : NetKey). same_key a.key b.key) (map g s.nets)
    ≡ all_apart (λ (a b : NetKey). same_key a.key b.key) s.nets =
    apart_map (λ (a b : NetKey). same_key a.key b.key) g alike s.nets in
    let lives : length (filter (λ (x : NetKey). x.live) (map g s.nets)) ≡ length (live_nets s) =
    ap (length {A = NetKey}) (filter-map (λ (x : NetKey). x.live) g s.nets) ∙ length-map
    (filter (λ (x : NetKey). (g x).live) s.nets) g
    ∙ ap (length {A = NetKey})
    (filter_same_tests (λ (x : NetKey). (g x).live) (λ (x : NetKey). x.live) mild.live s.nets) in
    let now : NodeState = record s { nets = map g s.nets } in
    rules_back now (record {
      room = rw (length-map s.nets g) r.room;
      keys = ap (λ b. b && all_apart (λ (a b : LinkKey). same_key a.key b.key) s.links) keys ∙ r.keys;
      two = ap (λ n. nat_le n 2) lives ∙ r.two;
      active = still_active g mild s s.active refl r.active;
      partners = r.partners;
      marks = r.marks;
      floors = all_map floors_rule g mild.floors s.nets r.floors;
      limits = all_map limit_rule g mild.limit s.nets r.limits;
      role_kept = r.role_kept;
      pairs_kept = r.pairs_kept;
    })

-- A change that fits leaves the rules.
move_kept : (m : Move) (s : NodeState) → fits (Moved m) s ≡ true → keeps_rules (shown s) ≡ true
    → keeps_rules (shown (applied (Moved m) s)) ≡ true
unfolding fits applied
move_kept (Draw key) s fit kept = kept
move_kept (DropNet key) s fit kept = rules_shown _ (both (may_change (Moved (DropNet key)) s) _ fit).1
move_kept (DropLink partner key) s fit kept =
    rules_shown _ (both (may_change (Moved (DropLink partner key)) s) _ fit).1
move_kept (Install key sequence) s fit kept =
    rules_shown _ (both (may_change (Moved (Install key sequence)) s) _ fit).1
move_kept (Active key) s fit kept = rules_shown _ (both (may_change (Moved (Active key)) s) _ fit).1
move_kept (Row partner key attribute) s fit kept =
    rules_shown _ (both (may_change (Moved (Row partner key attribute)) s) _ fit).1
move_kept (Pair first second key) s fit kept =
    rules_shown _ (both (may_change (Moved (Pair first second key)) s) _ fit).1
move_kept (Became state) s fit kept = rules_shown _ (both (may_change (Moved (Became state)) s) _ fit).1
move_kept (Live device) s fit kept = rules_shown _ (both (may_change (Moved (Live device)) s) _ fit).1
move_kept (Removed device) s fit kept = rules_shown _ (both (may_change (Moved (Removed device)) s) _ fit).1
move_kept (Roll sending) s fit kept = rules_shown _ (both (may_change (Moved (Roll sending)) s) _ fit).1
move_kept (Told device) s fit kept = rules_shown _ (both (may_change (Moved (Told device)) s) _ fit).1
move_kept (Untold device) s fit kept = rules_shown _ (both (may_change (Moved (Untold device)) s) _ fit).1

pub fits_kept : (e : Edit) (s : NodeState) → fits e s ≡ true → keeps_rules (shown s) ≡ true
    → keeps_rules (shown (applied e s)) ≡ true
unfolding fits
fits_kept (Reserve layer limit) s fit kept = rules_shown _ (both (may_change (Reserve layer limit) s) _ fit).1
fits_kept (Floor layer key sender value) s fit kept =
    rules_shown _ (both (may_change (Floor layer key sender value) s) _ fit).1
fits_kept (Start key value) s fit kept = rules_shown _ (both (may_change (Start key value) s) _ fit).1
fits_kept (Moved m) s fit kept = move_kept m s fit kept

-- a change of one key's row
pub mild_at : (key : Bytes) (f : NetKey → NetKey) → Mild f → Mild (λ (r : NetKey). if same_key r.key key then f r
    else r)
mild_at key f mild = record {
  key = λ r. key_of (same_key r.key key) r;
  live = λ r. live_of (same_key r.key key) r;
  limit = λ r e. limit_of (same_key r.key key) r e;
  floors = λ r e. floors_of (same_key r.key key) r e;
}
  where
    key_of : (b : Bool) (r : NetKey) → (if b then f r else r).key ≡ r.key
    key_of true r = mild.key r
    key_of false r = refl

    live_of : (b : Bool) (r : NetKey) → (if b then f r else r).live ≡ r.live
    live_of true r = mild.live r
    live_of false r = refl

    limit_of : (b : Bool) (r : NetKey) → limit_rule r ≡ true → limit_rule (if b then f r else r) ≡ true
    limit_of true r e = mild.limit r e
    limit_of false r e = e

    floors_of : (b : Bool) (r : NetKey) → floors_rule r ≡ true → floors_rule (if b then f r else r) ≡ true
    floors_of true r e = mild.floors r e
    floors_of false r e = e

abbrev kept_at : ℕ → ℕ → SenderFloor → SenderFloor
kept_at sender kept f = if nat_eq f.sender sender then record f { kept = kept } else f

kept_sender : (sender kept : ℕ) (f : SenderFloor) → (kept_at sender kept f).sender ≡ f.sender
kept_sender sender kept f = at_test (nat_eq f.sender sender)
  where
    at_test : (b : Bool) → (if b then record f { kept = kept } else f).sender ≡ f.sender
    at_test true = refl
    at_test false = refl

kept_stored : (sender kept : ℕ) (f : SenderFloor) → (kept_at sender kept f).stored ≡ f.stored
kept_stored sender kept f = at_test (nat_eq f.sender sender)
  where
    at_test : (b : Bool) → (if b then record f { kept = kept } else f).stored ≡ f.stored
    at_test true = refl
    at_test false = refl

all_same : {X : Type 0} (p q : X → Bool) → ((x : X) → p x ≡ q x) → (xs : List X) → list_all p xs ≡ list_all q xs
all_same p q each [] = refl
all_same p q each (x ∷ xs) = ap (λ b. b && list_all p xs) (each x) ∙ ap (λ b. q x && b) (all_same p q each xs)

ascend_kept : (sender kept : ℕ) (fs : List SenderFloor) → senders_ascend (map (kept_at sender kept) fs)
    ≡ senders_ascend fs
ascend_kept sender kept [] = refl
ascend_kept sender kept (f ∷ fs) =
    let first : list_all (λ (g : SenderFloor). nat_lt (kept_at sender kept f).sender g.sender)
    (map (kept_at sender kept) fs) ≡ list_all (λ (g : SenderFloor). nat_lt f.sender g.sender) fs =
    list_all-map (λ (g : SenderFloor). nat_lt (kept_at sender kept f).sender g.sender) (kept_at sender kept) fs
    ∙ all_same (λ (g : SenderFloor). nat_lt (kept_at sender kept f).sender (kept_at sender kept g).sender)
    (λ (g : SenderFloor). nat_lt f.sender g.sender)
    (λ g. ap (λ a. nat_lt a (kept_at sender kept g).sender) (kept_sender sender kept f) ∙ ap (nat_lt f.sender)
    (kept_sender sender kept g)) fs in
    ap (λ b. b && senders_ascend (map (kept_at sender kept) fs)) first ∙ ap
    (λ b. list_all (λ (g : SenderFloor). nat_lt f.sender g.sender) fs && b) (ascend_kept sender kept fs)

pub heard_is_mild : (sender kept : ℕ) → Mild (net_kept sender kept)
heard_is_mild sender kept = record {
  key = λ r. refl;
  live = λ r. refl;
  limit = λ r e. e;
  floors = λ r e.
      let long : nat_le (length (floor_kept sender kept r.floors)) most_senders
      ≡ nat_le (length r.floors) most_senders =
      ap (λ n. nat_le n most_senders) (length-map r.floors (kept_at sender kept)) in
      let stored : list_all (λ (f : SenderFloor). nat_lt 0 f.stored) (floor_kept sender kept r.floors)
      ≡ list_all (λ (f : SenderFloor). nat_lt 0 f.stored) r.floors =
      list_all-map (λ (f : SenderFloor). nat_lt 0 f.stored) (kept_at sender kept) r.floors ∙ all_same
      (λ (f : SenderFloor). nat_lt 0 (kept_at sender kept f).stored) (λ (f : SenderFloor). nat_lt 0 f.stored)
      (λ f. ap (nat_lt 0) (kept_stored sender kept f)) r.floors in
      ap (λ b. b
      && (list_all (λ (f : SenderFloor). nat_lt 0 f.stored) (floor_kept sender kept r.floors)
      && senders_ascend (floor_kept sender kept r.floors))) long
      ∙ ap (λ b. nat_le (length r.floors) most_senders && (b && senders_ascend (floor_kept sender kept r.floors)))
      stored
      ∙ ap (λ b. nat_le (length r.floors) most_senders
      && (list_all (λ (f : SenderFloor). nat_lt 0 f.stored) r.floors && b)) (ascend_kept sender kept r.floors)
      ∙ e;
}

-- floors that are set back
ascend_booted : (fs : List SenderFloor) → senders_ascend (map booted_floor fs) ≡ senders_ascend fs
ascend_booted [] = refl
ascend_booted (f ∷ fs) =
    ap (λ b. b && senders_ascend (map booted_floor fs))
    (list_all-map (λ (g : SenderFloor). nat_lt f.sender g.sender) booted_floor fs)
    ∙ ap (λ b. list_all (λ (g : SenderFloor). nat_lt f.sender g.sender) fs && b) (ascend_booted fs)

pub boot_is_mild : Mild booted_net
boot_is_mild = record {
  key = λ r. refl;
  live = λ r. refl;
  limit = λ r e. e;
  floors = λ r e.
      let long : nat_le (length (map booted_floor r.floors)) most_senders ≡ nat_le (length r.floors) most_senders =
      ap (λ n. nat_le n most_senders) (length-map r.floors booted_floor) in
      let stored : list_all (λ (f : SenderFloor). nat_lt 0 f.stored) (map booted_floor r.floors)
      ≡ list_all (λ (f : SenderFloor). nat_lt 0 f.stored) r.floors =
      list_all-map (λ (f : SenderFloor). nat_lt 0 f.stored) booted_floor r.floors in
      ap (λ b. b
      && (list_all (λ (f : SenderFloor). nat_lt 0 f.stored) (map booted_floor r.floors)
      && senders_ascend (map booted_floor r.floors))) long
      ∙ ap (λ b. nat_le (length r.floors) most_senders && (b && senders_ascend (map booted_floor r.floors))) stored
      ∙ ap (λ b. nat_le (length r.floors) most_senders
      && (list_all (λ (f : SenderFloor). nat_lt 0 f.stored) r.floors && b)) (ascend_booted r.floors)
      ∙ e;
}

-- a change of link rows in their floors alone
abbrev bare : LinkKey → LinkKey
bare r = record r { kept = 0; stored = 0 }

abbrev link_rule : Role → LinkKey → Bool
link_rule role r = (not r.told || (r.live && is_centre role)) && (not (is_provisional r.attribute) || r.code)

pub kept_by_links : (g : LinkKey → LinkKey) → ((r : LinkKey) → bare (g r) ≡ bare r) → (s : NodeState) → keeps_rules s
    ≡ true → keeps_rules (record s { links = map g s.links }) ≡ true
unfolding rows_have_room keys_differ at_most_two_live active_is_live partners_agree links_are_marked floors_are_kept
    limits_are_started role_is_kept pairs_are_kept
kept_by_links g each s kept =
    let r = rules_of s kept in
    let now : NodeState = record s { links = map g s.links } in
    let keys : all_apart (λ (a b : LinkKey). same_key a.key b.key) (map g s.links)
    ≡ all_apart (λ (a b : LinkKey). same_key a.key b.key) s.links =
    apart_map (λ (a b : LinkKey). same_key a.key b.key) g
    (λ a b. ap (λ (x : LinkKey). same_key x.key (g b).key) (each a) ∙ ap (λ (x : LinkKey). same_key a.key x.key)
    (each b)) s.links in
    let classes : all_apart
    (λ (a b : LinkKey). like_rows a b && same_bool (is_unverified a.attribute) (is_unverified b.attribute))
    (map g s.links)
    ≡ all_apart
    (λ (a b : LinkKey). like_rows a b && same_bool (is_unverified a.attribute) (is_unverified b.attribute))
    s.links =
    apart_map (λ (a b : LinkKey). like_rows a b && same_bool (is_unverified a.attribute) (is_unverified b.attribute)) g
    (λ a b. ap
    (λ (x : LinkKey). like_rows x (g b) && same_bool (is_unverified x.attribute) (is_unverified (g b).attribute))
    (each a) ∙ ap
    (λ (x : LinkKey). like_rows a x && same_bool (is_unverified a.attribute) (is_unverified x.attribute))
    (each b)) s.links in
    let tolds : all_apart (λ (a b : LinkKey). like_rows a b && not (same_bool a.told b.told)) (map g s.links)
    ≡ all_apart (λ (a b : LinkKey). like_rows a b && not (same_bool a.told b.told)) s.links =
    apart_map (λ (a b : LinkKey). like_rows a b && not (same_bool a.told b.told)) g
    (λ a b. ap (λ (x : LinkKey). like_rows x (g b) && not (same_bool x.told (g b).told)) (each a) ∙ ap
    (λ (x : LinkKey). like_rows a x && not (same_bool a.told x.told)) (each b)) s.links in
    rules_back now (record {
      room = ap (λ n. nat_le (length s.nets) 256 && (nat_le n (most_links s.role) && nat_le (length s.pairs) 256))
          (length-map s.links g) ∙ r.room;
      keys = ap (λ b. all_apart (λ (a b : NetKey). same_key a.key b.key) s.nets && b) keys ∙ r.keys;
      two = r.two;
      active = r.active;
      partners =
          ap (λ b. b && all_apart (λ (a b : LinkKey). like_rows a b && not (same_bool a.told b.told)) (map g s.links))
          classes
          ∙ ap (λ b. all_apart
          (λ (a b : LinkKey). like_rows a b && same_bool (is_unverified a.attribute) (is_unverified b.attribute))
          s.links && b) tolds ∙ r.partners;
      marks = all_map (link_rule s.role) g (λ x e. ap (λ (y : LinkKey). link_rule s.role y) (each x) ∙ e) s.links
          r.marks;
      floors = r.floors;
      limits = r.limits;
      role_kept = r.role_kept;
      pairs_kept = r.pairs_kept;
    })
