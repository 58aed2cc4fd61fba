-- Changes of network rows, and whether the rules are kept after them.
use Rattle.std.proofs.Common.{◌≡◌, ℕ, ◌+◌, ◌<◌, List, [], ◌∷◌, ◌++◌, length, map, refl, sym, ap, ◌∙◌, arith, Bool, true, false, not, if◌then◌else◌, ◌&&◌, Option, Some, None, length-append}
use Rattle.std.specs.Prelude.{find, nat_lt}
use Rattle.std.specs.List.{list_all}
use Rattle.std.proofs.lemmas.Bool.{not-true, lt-ltb, ltb-true}
use Rattle.std.proofs.lemmas.List.{length-map}
use Rattle.std.proofs.lemmas.List.Elements.{filter-append}
use Rattle.std.proofs.lemmas.List.Folds.{list_all-append}
use Rattle.zb_model.specs.Data.{Bytes}
use Rattle.zb_model.specs.State.{NodeState, SenderFloor, NetKey, same_key, live_nets, at_net, has_net, reserved, started_at, dropped_net, new_net, of_active, is_active_key}
use Rattle.zb_model.specs.Fits.{keeps_rules, active_is_live, role_is_kept, row_is_live, live_net, most_nets, all_apart}
use Rattle.law_change_fits.proofs.Tests.{both, never, same_both, all_map, fewer, apart_map, apart_snoc}
use Rattle.law_change_fits.proofs.Parts.{Rules, rules_of, rules_back, floors_rule, limit_rule, nets_alike, same_key_is}

abbrev has_key : Bytes → NetKey → Bool
has_key key r = same_key r.key key

-- a change that leaves keys, and what the rules say of the rest of each row
pub record Mild (g : NetKey → NetKey) : Type 0 where
  pub key : (r : NetKey) → (g r).key ≡ r.key
  pub live : (r : NetKey) → (g r).live ≡ r.live
  pub limit : (r : NetKey) → limit_rule r ≡ true → limit_rule (g r) ≡ true

keys_left : (g : NetKey → NetKey) → ((r : NetKey) → (g r).key ≡ r.key) → (nets : List NetKey)
    → all_apart nets_alike nets ≡ true → all_apart nets_alike (map g nets) ≡ true
keys_left g key nets a =
    apart_map nets_alike nets_alike g
    (λ x y e. ap (λ k. same_key k (g y).key) (key x) ∙ ap (same_key x.key) (key y) ∙ e) nets a

found_live : (g : NetKey → NetKey) → ((r : NetKey) → (g r).key ≡ r.key) → (key : Bytes)
    → ((r : NetKey) → same_key r.key key ≡ true → (g r).live ≡ r.live) → (nets : List NetKey)
    → row_is_live (find (has_key key) (map g nets)) ≡ row_is_live (find (has_key key) nets)
found_live g keyed key live [] = refl
found_live g keyed key live (r ∷ rs) =
    ap (λ k. row_is_live (if same_key k key then Some (g r) else find (has_key key) (map g rs))) (keyed r)
    ∙ at_test (same_key r.key key) refl (found_live g keyed key live rs)
  where
    at_test : (b : Bool) → same_key r.key key ≡ b → row_is_live (find (has_key key) (map g rs))
        ≡ row_is_live (find (has_key key) rs)
        → row_is_live (if b then Some (g r) else find (has_key key) (map g rs))
        ≡ row_is_live (if b then Some r else find (has_key key) rs)
    at_test true is e = live r is
    at_test false is e = e

still_active : (g : NetKey → NetKey) → Mild g → (s : NodeState) (active : Option Bytes) → s.active ≡ active
    → active_is_live s ≡ true → active_is_live (record s { nets = map g s.nets }) ≡ true
unfolding active_is_live
still_active g mild s None none kept = rw none refl
still_active g mild s (Some key) is kept =
    rw is (found_live g mild.key key (λ r e. mild.live r) s.nets ∙ rw is at kept)

pub mild_kept : (g : NetKey → NetKey) → Mild g → (s : NodeState) → Rules s → list_all floors_rule (map g s.nets)
    ≡ true → keeps_rules (record s { nets = map g s.nets }) ≡ true
unfolding role_is_kept
mild_kept g mild s r floors =
    rules_back (record s { nets = map g s.nets }) (record {
      nets_room = omega (arith, r.nets_room, length-map s.nets g);
      links_room = r.links_room;
      pairs_room = r.pairs_room;
      net_keys = keys_left g mild.key s.nets r.net_keys;
      link_keys = r.link_keys;
      two = omega (
        arith,
        r.two,
        fewer (λ (x : NetKey). x.live) (λ (x : NetKey). x.live) g (λ x e. sym (mild.live x) ∙ e)
            s.nets,
      );
      active = still_active g mild s s.active refl r.active;
      kinds = r.kinds;
      told = r.told;
      marks = r.marks;
      floors = floors;
      limits = all_map limit_rule limit_rule g mild.limit s.nets r.limits;
      role_kept = r.role_kept;
      pairs = r.pairs;
      pair_names = r.pair_names;
    })

-- the change of one key's row
pub mild_at : (key : Bytes) (f : NetKey → NetKey) → Mild f → Mild (λ (r : NetKey). if same_key r.key key then f r
    else r)
mild_at key f mild = record {
  key = λ r. key_of (same_key r.key key) r;
  live = λ r. live_of (same_key r.key key) r;
  limit = λ r e. limit_of (same_key r.key key) r e;
}
  where
    key_of : (b : Bool) (r : NetKey) → (if b then f r else r).key ≡ r.key
    key_of true r = mild.key r
    key_of false r = refl

    live_of : (b : Bool) (r : NetKey) → (if b then f r else r).live ≡ r.live
    live_of true r = mild.live r
    live_of false r = refl

    limit_of : (b : Bool) (r : NetKey) → limit_rule r ≡ true → limit_rule (if b then f r else r) ≡ true
    limit_of true r e = mild.limit r e
    limit_of false r e = e

floors_left : (key : Bytes) (f : NetKey → NetKey) → ((r : NetKey) → (f r).floors ≡ r.floors) → (nets : List NetKey)
    → list_all floors_rule nets ≡ true → list_all floors_rule (at_net key f nets) ≡ true
floors_left key f same nets all = all_map floors_rule floors_rule (λ (r : NetKey). if same_key r.key key then f r
    else r) (λ r e. at_test (same_key r.key key) r e) nets all
  where
    by_floors : (r : NetKey) (fs : List SenderFloor) → fs ≡ r.floors → floors_rule r ≡ true
        → floors_rule (record r { floors = fs }) ≡ true
    by_floors r fs is e = rw is e

    at_test : (b : Bool) (r : NetKey) → floors_rule r ≡ true → floors_rule (if b then f r else r) ≡ true
    at_test true r e = by_floors r (f r).floors (same r) e
    at_test false r e = e

pub reserved_is_mild : (limit : ℕ) → Mild (reserved limit)
reserved_is_mild limit = record { key = λ r. refl; live = λ r. refl; limit = λ r e. refl }

pub started_is_mild : (value : ℕ) → Mild (started_at value)
started_is_mild value = record { key = λ r. refl; live = λ r. refl; limit = λ r e. refl }

pub reserved_kept : (limit : ℕ) (s : NodeState) (active : Option Bytes) → s.active ≡ active → Rules s
    → keeps_rules (record s { nets = of_active (reserved limit) active s.nets }) ≡ true
reserved_kept limit s None is r = rules_back s r
reserved_kept limit s (Some key) is r =
    mild_kept (λ (x : NetKey). if same_key x.key key then reserved limit x
    else x) (mild_at key (reserved limit) (reserved_is_mild limit)) s r
    (floors_left key (reserved limit) (λ x. refl) s.nets r.floors)

pub started_kept : (key : Bytes) (value : ℕ) (s : NodeState) → Rules s
    → keeps_rules (record s { nets = at_net key (started_at value) s.nets }) ≡ true
started_kept key value s r =
    mild_kept (λ (x : NetKey). if same_key x.key key then started_at value x
    else x) (mild_at key (started_at value) (started_is_mild value)) s r
    (floors_left key (started_at value) (λ x. refl) s.nets r.floors)

-- A network key is dropped: it isn't the active one.

abbrev dropped_at : Bytes → NetKey → NetKey
dropped_at key r = if same_key r.key key then dropped_net r else r

dropped_key : (key : Bytes) (r : NetKey) → (dropped_at key r).key ≡ r.key
dropped_key key r = at_test (same_key r.key key)
  where
    at_test : (b : Bool) → (if b then dropped_net r else r).key ≡ r.key
    at_test true = refl
    at_test false = refl

dropped_live : (key : Bytes) (r : NetKey) → (dropped_at key r).live ≡ true → r.live ≡ true
dropped_live key r e = at_test (same_key r.key key) e
  where
    at_test : (b : Bool) → (if b then dropped_net r else r).live ≡ true → r.live ≡ true
    at_test true e = absurd (cc)
    at_test false e = e

dropped_limit : (key : Bytes) (r : NetKey) → limit_rule r ≡ true → limit_rule (dropped_at key r) ≡ true
dropped_limit key r e = at_test (same_key r.key key) e
  where
    at_test : (b : Bool) → limit_rule r ≡ true → limit_rule (if b then dropped_net r else r) ≡ true
    at_test true e = e
    at_test false e = e

-- another key's row stays
dropped_other : (key other : Bytes) → same_key other key ≡ false → (r : NetKey) → same_key r.key other ≡ true
    → (dropped_at key r).live ≡ r.live
dropped_other key other apart r is =
    let not_it : same_key r.key key ≡ false = ap (λ k. same_key k key) (same_key_is r.key other is) ∙ apart in
    rw not_it refl

dropped_active : (key : Bytes) (s : NodeState) (active : Option Bytes) → s.active ≡ active
    → not (is_active_key active key) ≡ true → active_is_live s ≡ true
    → active_is_live (record s { nets = at_net key dropped_net s.nets }) ≡ true
unfolding active_is_live
dropped_active key s None is other kept = rw is refl
dropped_active key s (Some k) is other kept =
    rw is (found_live (dropped_at key) (dropped_key key) k (dropped_other key k (not-true _ other)) s.nets ∙ rw is at
    kept)

none_live : (key : Bytes) (nets : List NetKey) → row_is_live (find (has_key key) (at_net key dropped_net nets)) ≡ false
none_live key [] = refl
none_live key (r ∷ rs) = at_test (same_key r.key key) refl (none_live key rs)
  where
    at_test : (b : Bool) → same_key r.key key ≡ b → row_is_live (find (has_key key) (at_net key dropped_net rs))
        ≡ false
        → row_is_live (if same_key (if b then dropped_net r else r).key key then Some (if b then dropped_net r else r)
        else find (has_key key) (at_net key dropped_net rs)) ≡ false
    at_test true is e = rw is refl
    at_test false is e = rw is e

dropped_breaks : (key : Bytes) (s : NodeState) (active : Option Bytes) → s.active ≡ active
    → active_is_live (record s { nets = at_net key dropped_net s.nets }) ≡ true → not (is_active_key active key) ≡ true
unfolding active_is_live
dropped_breaks key s None is kept = refl
dropped_breaks key s (Some k) is kept = at_test (same_key k key) refl (rw is at kept)
  where
    at_test : (b : Bool) → same_key k key ≡ b → row_is_live (find (has_key k) (at_net key dropped_net s.nets)) ≡ true
        → not b ≡ true
    at_test true same e = never (row_is_live (find (has_key k) (at_net key dropped_net s.nets))) e
        (ap (λ x. row_is_live (find (has_key x) (at_net key dropped_net s.nets))) (same_key_is k key same) ∙ none_live
        key s.nets)
    at_test false same e = refl

pub dropped_net_kept : (key : Bytes) (s : NodeState) → Rules s
    → keeps_rules (record s { nets = at_net key dropped_net s.nets }) ≡ not (is_active_key s.active key)
unfolding role_is_kept
dropped_net_kept key s r =
    let now : NodeState = record s { nets = at_net key dropped_net s.nets } in
    same_both (keeps_rules now) (not (is_active_key s.active key))
    (λ kept. dropped_breaks key s s.active refl (rules_of now kept).active)
    (λ other. rules_back now (record {
      nets_room = omega (arith, r.nets_room, length-map s.nets (dropped_at key));
      links_room = r.links_room;
      pairs_room = r.pairs_room;
      net_keys = keys_left (dropped_at key) (dropped_key key) s.nets r.net_keys;
      link_keys = r.link_keys;
      two = omega (
        arith,
        r.two,
        fewer (λ (x : NetKey). x.live) (λ (x : NetKey). x.live) (dropped_at key) (dropped_live key)
            s.nets,
      );
      active = dropped_active key s s.active refl other r.active;
      kinds = r.kinds;
      told = r.told;
      marks = r.marks;
      floors = floors_left key dropped_net (λ x. refl) s.nets r.floors;
      limits = all_map limit_rule limit_rule (dropped_at key) (dropped_limit key) s.nets r.limits;
      role_kept = r.role_kept;
      pairs = r.pairs;
      pair_names = r.pair_names;
    }))

-- A network key is installed: there is room, and at most one live key.

found_first : (key : Bytes) (nets more : List NetKey) → row_is_live (find (has_key key) nets) ≡ true
    → row_is_live (find (has_key key) (nets ++ more)) ≡ true
found_first key [] more e = absurd (cc)
found_first key (r ∷ rs) more e = at_test (same_key r.key key) e (λ k. found_first key rs more k)
  where
    at_test : (b : Bool) → row_is_live (if b then Some r else find (has_key key) rs) ≡ true
        → (row_is_live (find (has_key key) rs) ≡ true → row_is_live (find (has_key key) (rs ++ more)) ≡ true)
        → row_is_live (if b then Some r else find (has_key key) (rs ++ more)) ≡ true
    at_test true e later = e
    at_test false e later = later e

installed_active : (more : List NetKey) (s : NodeState) (active : Option Bytes) → s.active ≡ active → active_is_live s
    ≡ true → active_is_live (record s { nets = s.nets ++ more }) ≡ true
unfolding active_is_live
installed_active more s None is kept = rw is refl
installed_active more s (Some k) is kept = rw is (found_first k s.nets more (rw is at kept))

pub installed_kept : (key : Bytes) (sequence : ℕ) (s : NodeState) → Rules s → has_net key s.nets ≡ false
    → keeps_rules (record s { nets = s.nets ++ new_net key sequence ∷ [] })
    ≡ (nat_lt (length s.nets) most_nets && nat_lt (length (live_nets s)) 2)
unfolding role_is_kept
installed_kept key sequence s r absent =
    let row : NetKey = new_net key sequence in
    let now : NodeState = record s { nets = s.nets ++ row ∷ [] } in
    let lives : length (live_nets now) ≡ length (live_nets s) + 1 =
    ap (length {A = NetKey}) (filter-append (λ (x : NetKey). x.live) s.nets (row ∷ [])) ∙ length-append
    (live_nets s) (row ∷ []) in
    same_both (keeps_rules now) (nat_lt (length s.nets) most_nets && nat_lt (length (live_nets s)) 2)
    (λ kept.
    let n = rules_of now kept in
    let room : nat_lt (length s.nets) most_nets ≡ true =
    lt-ltb _ _ (omega (arith, n.nets_room, length-append s.nets (row ∷ []))) in
    let two : nat_lt (length (live_nets s)) 2 ≡ true = lt-ltb _ _ (omega (arith, n.two, lives)) in
    rw (room, two) refl)
    (λ fit.
    let parts = both (nat_lt (length s.nets) most_nets) _ fit in
    let room : length s.nets < most_nets = ltb-true _ _ parts.0 in
    let one : length (live_nets s) < 2 = ltb-true _ _ parts.1 in
    rules_back now (record {
      nets_room = omega (arith, room, length-append s.nets (row ∷ []));
      links_room = r.links_room;
      pairs_room = r.pairs_room;
      net_keys = apart_snoc nets_alike s.nets row ∙ rw (r.net_keys, absent) refl;
      link_keys = r.link_keys;
      two = omega (arith, one, lives);
      active = installed_active (row ∷ []) s s.active refl r.active;
      kinds = r.kinds;
      told = r.told;
      marks = r.marks;
      floors = list_all-append floors_rule s.nets (row ∷ []) ∙ rw r.floors refl;
      limits = list_all-append limit_rule s.nets (row ∷ []) ∙ rw r.limits refl;
      role_kept = r.role_kept;
      pairs = r.pairs;
      pair_names = r.pair_names;
    }))

-- A live network key becomes active.
pub activated_kept : (key : Bytes) (s : NodeState) → Rules s → live_net key s ≡ true
    → keeps_rules (record s { active = Some key }) ≡ true
unfolding role_is_kept active_is_live
activated_kept key s r live =
    rules_back (record s { active = Some key }) (record {
      nets_room = r.nets_room;
      links_room = r.links_room;
      pairs_room = r.pairs_room;
      net_keys = r.net_keys;
      link_keys = r.link_keys;
      two = r.two;
      active = live;
      kinds = r.kinds;
      told = r.told;
      marks = r.marks;
      floors = r.floors;
      limits = r.limits;
      role_kept = r.role_kept;
      pairs = r.pairs;
      pair_names = r.pair_names;
    })
