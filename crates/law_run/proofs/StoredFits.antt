-- Whether a change fits depends on the stored state alone.
use Rattle.std.proofs.Common.{◌≡◌, ℕ, suc, List, [], ◌∷◌, map, length, Bool, true, false, not, if◌then◌else◌, ◌||◌, ◌&&◌, Option, Some, None, option_map, find, nat_eq, nat_lt, nat_le, is_some, refl, sym, ap, ◌∙◌}
use Rattle.std.specs.Prelude.{filter}
use Rattle.std.specs.List.{list_any, list_all}
use Rattle.std.proofs.lemmas.List.{length-map}
use Rattle.zb_model.specs.Data.{Bytes, Nwk, Aps, Draw, DropNet, DropLink, Install, Active, Row, Pair, Became, Live, Removed, Roll, Told, Untold, Edit, Reserve, Floor, Start, Moved}
use Rattle.zb_model.specs.State.{SenderFloor, NetKey, LinkKey, NodeState, same_key, has_net, is_link, is_live_of, is_live, is_unverified, net_of, net_of_active, active_row, sender_floor, floor_of_sender, stored_limit, limit_of, pair_of, applied, booted_floor, booted_net, booted_link, after_boot}
use Rattle.zb_model.specs.Fits.{all_apart, rows_have_room, most_nets, most_links, most_pairs, keys_differ, at_most_two_live, active_is_live, row_is_live, partners_agree, like_rows, same_bool, links_are_marked, floors_are_kept, most_senders, senders_ascend, limits_are_started, role_is_kept, pairs_are_kept, keeps_rules, may_change, live_net, live_link, net_stored, link_stored, net_limit, fits}
use Rattle.law_run.proofs.Basics.{find-map}
use Rattle.law_run.proofs.StoredChanges.{any_net, any_link, change_again}

-- lists of rows that are booted

every : {X : Type 0} (test : X → Bool) (f : X → X) → ((x : X) → test (f x) ≡ test x) → (xs : List X)
    → list_all test (map f xs) ≡ list_all test xs
every test f same [] = refl
every test f same (x ∷ xs) = ap (λ (b : Bool). b && list_all test (map f xs)) (same x) ∙ ap
    (λ (b : Bool). test x && b) (every test f same xs)

some : {X : Type 0} (test other : X → Bool) (f : X → X) → ((x : X) → test (f x) ≡ other x) → (xs : List X)
    → list_any test (map f xs) ≡ list_any other xs
some test other f same [] = refl
some test other f same (x ∷ xs) = ap (λ (b : Bool). b || list_any test (map f xs)) (same x) ∙ ap
    (λ (b : Bool). other x || b) (some test other f same xs)

apart : {X : Type 0} (alike : X → X → Bool) (f : X → X) → ((x y : X) → alike (f x) (f y) ≡ alike x y) → (xs : List X)
    → all_apart alike (map f xs) ≡ all_apart alike xs
apart alike f same [] = refl
apart alike f same (x ∷ xs) =
    ap (λ (b : Bool). not b && all_apart alike (map f xs)) (some (alike (f x)) (alike x) f (same x) xs) ∙ ap
    (λ (b : Bool). not (list_any (alike x) xs) && b) (apart alike f same xs)

so_many : {X : Type 0} (test : X → Bool) (f : X → X) → ((x : X) → test (f x) ≡ test x) → (xs : List X)
    → length (filter test (map f xs)) ≡ length (filter test xs)
so_many test f same [] = refl
so_many {X} test f same (x ∷ xs) =
    ap (λ (b : Bool). length (if b then f x ∷ filter test (map f xs) else filter test (map f xs))) (same x) ∙ by_test
    (test x) (so_many test f same xs)
  where
    by_test : (b : Bool) → length (filter test (map f xs)) ≡ length (filter test xs)
        → length (if b then f x ∷ filter test (map f xs) else filter test (map f xs))
        ≡ length (if b then x ∷ filter test xs else filter test xs)
    by_test true further = ap (λ (n : ℕ). suc n) further
    by_test false further = further

-- floors

ascend : (fs : List SenderFloor) → senders_ascend (map booted_floor fs) ≡ senders_ascend fs
ascend [] = refl
ascend (f ∷ fs) =
    ap (λ (b : Bool). b && senders_ascend (map booted_floor fs))
    (every (λ (g : SenderFloor). nat_lt f.sender g.sender) booted_floor (λ g. refl) fs)
    ∙ ap (λ (b : Bool). list_all (λ (g : SenderFloor). nat_lt f.sender g.sender) fs && b) (ascend fs)

floors_same : (fs : List SenderFloor)
    → (nat_le (length (map booted_floor fs)) most_senders
    && (list_all (λ (f : SenderFloor). nat_lt 0 f.stored) (map booted_floor fs)
    && senders_ascend (map booted_floor fs)))
    ≡ (nat_le (length fs) most_senders && (list_all (λ (f : SenderFloor). nat_lt 0 f.stored) fs && senders_ascend fs))
floors_same fs =
    ap (λ (n : ℕ). nat_le n most_senders
    && (list_all (λ (f : SenderFloor). nat_lt 0 f.stored) (map booted_floor fs)
    && senders_ascend (map booted_floor fs))) (length-map fs booted_floor)
    ∙ ap (λ (b : Bool). nat_le (length fs) most_senders && (b && senders_ascend (map booted_floor fs)))
    (every (λ (f : SenderFloor). nat_lt 0 f.stored) booted_floor (λ f. refl) fs)
    ∙ ap (λ (b : Bool). nat_le (length fs) most_senders
    && (list_all (λ (f : SenderFloor). nat_lt 0 f.stored) fs && b)) (ascend fs)

-- the rules, one by one

room_same : (s : NodeState) → rows_have_room (after_boot s) ≡ rows_have_room s
unfolding after_boot rows_have_room
room_same s =
    ap (λ (n : ℕ). nat_le n most_nets
    && (nat_le (length (map booted_link s.links)) (most_links s.role) && nat_le (length s.pairs) most_pairs))
    (length-map s.nets booted_net)
    ∙ ap (λ (n : ℕ). nat_le (length s.nets) most_nets
    && (nat_le n (most_links s.role) && nat_le (length s.pairs) most_pairs)) (length-map s.links booted_link)

differ_same : (s : NodeState) → keys_differ (after_boot s) ≡ keys_differ s
unfolding after_boot keys_differ
differ_same s =
    ap (λ (b : Bool). b && all_apart (λ (a b : LinkKey). same_key a.key b.key) (map booted_link s.links))
    (apart (λ (a b : NetKey). same_key a.key b.key) booted_net (λ a b. refl) s.nets)
    ∙ ap (λ (b : Bool). all_apart (λ (a b : NetKey). same_key a.key b.key) s.nets && b)
    (apart (λ (a b : LinkKey). same_key a.key b.key) booted_link (λ a b. refl) s.links)

live_same : (s : NodeState) → at_most_two_live (after_boot s) ≡ at_most_two_live s
unfolding after_boot at_most_two_live
live_same s = ap (λ (n : ℕ). nat_le n 2) (so_many (λ (r : NetKey). r.live) booted_net (λ r. refl) s.nets)

row_same : (o : Option NetKey) → row_is_live (option_map booted_net o) ≡ row_is_live o
row_same None = refl
row_same (Some r) = refl

named_same : (key : Bytes) (rs : List NetKey)
    → row_is_live (find (λ (r : NetKey). same_key r.key key) (map booted_net rs))
    ≡ row_is_live (find (λ (r : NetKey). same_key r.key key) rs)
named_same key rs = ap row_is_live (find-map (λ (r : NetKey). same_key r.key key) booted_net (λ r. refl) rs) ∙
    row_same (find (λ (r : NetKey). same_key r.key key) rs)

active_same : (s : NodeState) → active_is_live (after_boot s) ≡ active_is_live s
unfolding after_boot active_is_live
active_same s = by_active s.active
  where
    by_active : (o : Option Bytes)
        → active_is_live
        (record s {
          aps_next = s.aps_limit;
          nets = map booted_net s.nets;
          links = map booted_link s.links;
          active = o;
        }) ≡ active_is_live (record s { active = o })
    by_active None = refl
    by_active (Some key) = named_same key s.nets

agree_same : (s : NodeState) → partners_agree (after_boot s) ≡ partners_agree s
unfolding after_boot partners_agree
agree_same s =
    let one = λ (a b : LinkKey). like_rows a b && same_bool (is_unverified a.attribute) (is_unverified b.attribute) in
    let two = λ (a b : LinkKey). like_rows a b && not (same_bool a.told b.told) in
    ap (λ (b : Bool). b && all_apart two (map booted_link s.links)) (apart one booted_link (λ a b. refl) s.links)
    ∙ ap (λ (b : Bool). all_apart one s.links && b) (apart two booted_link (λ a b. refl) s.links)

marked_same : (s : NodeState) → links_are_marked (after_boot s) ≡ links_are_marked s
unfolding after_boot links_are_marked
marked_same s = every _ booted_link (λ r. refl) s.links

kept_same : (s : NodeState) → floors_are_kept (after_boot s) ≡ floors_are_kept s
unfolding after_boot floors_are_kept
kept_same s = every _ booted_net (λ r. floors_same r.floors) s.nets

started_same : (s : NodeState) → limits_are_started (after_boot s) ≡ limits_are_started s
unfolding after_boot limits_are_started
started_same s = every _ booted_net (λ r. refl) s.nets

role_same : (s : NodeState) → role_is_kept (after_boot s) ≡ role_is_kept s
unfolding after_boot role_is_kept
role_same s = refl

pairs_same : (s : NodeState) → pairs_are_kept (after_boot s) ≡ pairs_are_kept s
unfolding after_boot pairs_are_kept
pairs_same s = refl

pub rules_same : (s : NodeState) → keeps_rules (after_boot s) ≡ keeps_rules s
unfolding keeps_rules
rules_same s =
    rw (
      room_same s,
      differ_same s,
      live_same s,
      active_same s,
      agree_same s,
      marked_same s,
      kept_same s,
      started_same s,
      role_same s,
      pairs_same s,
    ) refl

-- what a change needs

any_live_link : (partner : ℕ) (key : Bytes) (rs : List LinkKey)
    → list_any (λ (r : LinkKey). is_link partner key r && r.live) (map booted_link rs)
    ≡ list_any (λ (r : LinkKey). is_link partner key r && r.live) rs
any_live_link partner key rs = any_link (λ (r : LinkKey). is_link partner key r && r.live) (λ r. refl) rs

floor_kept_of : (sender : ℕ) (fs : List SenderFloor)
    → (floor_of_sender sender (find (λ (f : SenderFloor). nat_eq f.sender sender) (map booted_floor fs))).stored
    ≡ (floor_of_sender sender (find (λ (f : SenderFloor). nat_eq f.sender sender) fs)).stored
floor_kept_of sender fs = ap (λ (o : Option SenderFloor). (floor_of_sender sender o).stored)
    (find-map (λ (f : SenderFloor). nat_eq f.sender sender) booted_floor (λ f. refl) fs) ∙ by_found
    (find (λ (f : SenderFloor). nat_eq f.sender sender) fs)
  where
    by_found : (o : Option SenderFloor) → (floor_of_sender sender (option_map booted_floor o)).stored
        ≡ (floor_of_sender sender o).stored
    by_found None = refl
    by_found (Some f) = refl

stored_same : (sender : ℕ) (o : Option NetKey) → net_stored sender (option_map booted_net o) ≡ net_stored sender o
unfolding sender_floor
stored_same sender None = refl
stored_same sender (Some r) = floor_kept_of sender r.floors

link_same : (o : Option LinkKey) → link_stored (option_map booted_link o) ≡ link_stored o
link_same None = refl
link_same (Some r) = refl

limit_same : (o : Option NetKey) → net_limit (option_map booted_net o) ≡ net_limit o
limit_same None = refl
limit_same (Some r) = refl

some_same : (o : Option NetKey) → is_some (option_map booted_net o) ≡ is_some o
some_same None = refl
some_same (Some r) = refl

counter_same : (declared : ℕ) (o : Option NetKey) → limit_of declared (option_map booted_net o) ≡ limit_of declared o
counter_same declared None = refl
counter_same declared (Some r) = refl

net_found : (key : Bytes) (s : NodeState) → net_of key (after_boot s) ≡ option_map booted_net (net_of key s)
unfolding after_boot
net_found key s = find-map (λ (r : NetKey). same_key r.key key) booted_net (λ r. refl) s.nets

active_found : (s : NodeState) → active_row (after_boot s) ≡ option_map booted_net (active_row s)
unfolding after_boot active_row
active_found s = by_active s.active
  where
    by_active : (o : Option Bytes)
        → net_of_active o
        (record s { aps_next = s.aps_limit; nets = map booted_net s.nets; links = map booted_link s.links })
        ≡ option_map booted_net (net_of_active o s)
    by_active None = refl
    by_active (Some key) = find-map (λ (r : NetKey). same_key r.key key) booted_net (λ r. refl) s.nets

live_found : (key : Bytes) (s : NodeState) → live_net key (after_boot s) ≡ live_net key s
live_found key s = ap row_is_live (net_found key s) ∙ row_same (net_of key s)

device_same : (s : NodeState) (device : ℕ) → is_live (after_boot s) device ≡ is_live s device
unfolding after_boot is_live
device_same s device = any_link (is_live_of device) (λ r. refl) s.links

may_same : (e : Edit) (s : NodeState) → may_change e (after_boot s) ≡ may_change e s
unfolding after_boot stored_limit pair_of
may_same (Reserve Nwk limit) s =
    ap (λ (o : Option NetKey). is_some o && nat_le (limit_of s.declared o) limit) (active_found s)
    ∙ ap (λ (b : Bool). b && nat_le (limit_of s.declared (option_map booted_net (active_row s))) limit)
    (some_same (active_row s))
    ∙ ap (λ (n : ℕ). is_some (active_row s) && nat_le n limit) (counter_same s.declared (active_row s))
may_same (Reserve Aps limit) s = refl
may_same (Floor Nwk key sender value) s =
    ap (λ (b : Bool). b && nat_le (net_stored sender (net_of key (after_boot s))) value) (live_found key s)
    ∙ ap (λ (o : Option NetKey). live_net key s && nat_le (net_stored sender o) value) (net_found key s)
    ∙ ap (λ (n : ℕ). live_net key s && nat_le n value) (stored_same sender (net_of key s))
may_same (Floor Aps key sender value) s =
    ap (λ (b : Bool). b && nat_le (link_stored (find (is_link sender key) (map booted_link s.links))) value)
    (any_live_link sender key s.links)
    ∙ ap (λ (o : Option LinkKey). live_link sender key s && nat_le (link_stored o) value)
    (find-map (is_link sender key) booted_link (λ r. refl) s.links)
    ∙ ap (λ (n : ℕ). live_link sender key s && nat_le n value) (link_same (find (is_link sender key) s.links))
may_same (Start key value) s =
    ap (λ (b : Bool). b && nat_le (net_limit (net_of key (after_boot s))) value)
    (any_net (λ (r : NetKey). same_key r.key key) (λ r. refl) s.nets)
    ∙ ap (λ (o : Option NetKey). has_net key s.nets && nat_le (net_limit o) value) (net_found key s)
    ∙ ap (λ (n : ℕ). has_net key s.nets && nat_le n value) (limit_same (net_of key s))
may_same (Moved (Draw key)) s = refl
may_same (Moved (DropNet key)) s = live_found key s
may_same (Moved (DropLink partner key)) s = any_live_link partner key s.links
may_same (Moved (Install key sequence)) s =
    ap (λ (b : Bool). not b) (any_net (λ (r : NetKey). same_key r.key key) (λ r. refl) s.nets)
may_same (Moved (Active key)) s = live_found key s
may_same (Moved (Row partner key attribute)) s = refl
may_same (Moved (Pair first second key)) s = refl
may_same (Moved (Became state)) s = refl
may_same (Moved (Live device)) s = rw (device_same s device) refl
may_same (Moved (Removed device)) s = rw (device_same s device) refl
may_same (Moved (Roll sending)) s = refl
may_same (Moved (Told device)) s = rw (device_same s device) refl
may_same (Moved (Untold device)) s = rw (device_same s device) refl

both_same : (e : Edit) (s : NodeState) → (may_change e (after_boot s) && keeps_rules (applied e (after_boot s)))
    ≡ (may_change e s && keeps_rules (applied e s))
both_same e s =
    let rules = sym (rules_same (applied e (after_boot s))) ∙ ap keeps_rules (change_again e s) ∙ rules_same
    (applied e s) in
    ap (λ (b : Bool). b && keeps_rules (applied e (after_boot s))) (may_same e s) ∙ ap
    (λ (b : Bool). may_change e s && b) rules

pub fits_same : (e : Edit) (s : NodeState) → fits e (after_boot s) ≡ fits e s
unfolding fits
fits_same (Reserve layer limit) s = both_same (Reserve layer limit) s
fits_same (Floor layer key sender value) s = both_same (Floor layer key sender value) s
fits_same (Start key value) s = both_same (Start key value) s
fits_same (Moved (Draw key)) s = refl
fits_same (Moved (DropNet key)) s = both_same (Moved (DropNet key)) s
fits_same (Moved (DropLink partner key)) s = both_same (Moved (DropLink partner key)) s
fits_same (Moved (Install key sequence)) s = both_same (Moved (Install key sequence)) s
fits_same (Moved (Active key)) s = both_same (Moved (Active key)) s
fits_same (Moved (Row partner key attribute)) s = both_same (Moved (Row partner key attribute)) s
fits_same (Moved (Pair first second key)) s = both_same (Moved (Pair first second key)) s
fits_same (Moved (Became state)) s = both_same (Moved (Became state)) s
fits_same (Moved (Live device)) s = both_same (Moved (Live device)) s
fits_same (Moved (Removed device)) s = both_same (Moved (Removed device)) s
fits_same (Moved (Roll sending)) s = both_same (Moved (Roll sending)) s
fits_same (Moved (Told device)) s = both_same (Moved (Told device)) s
fits_same (Moved (Untold device)) s = both_same (Moved (Untold device)) s
