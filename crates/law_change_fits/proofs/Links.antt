-- Changes of link rows, and whether the rules are kept after them.
use Rattle.std.proofs.Common.{◌≡◌, ℕ, ◌≤◌, List, length, map, refl, ap, ◌∙◌, arith, Bool, true, false, not, if◌then◌else◌, ◌&&◌, ◌||◌}
use Rattle.std.specs.Prelude.{nat_eq}
use Rattle.std.specs.List.{list_all}
use Rattle.std.proofs.lemmas.Bool.{eqb-true}
use Rattle.std.proofs.lemmas.List.{length-map}
use Rattle.zb_model.specs.Data.{Bytes, Role}
use Rattle.zb_model.specs.State.{NodeState, LinkKey, same_key, is_centre, is_provisional, is_link, is_live_of, at_link, dropped_link, link_floor, told_as, with_told}
use Rattle.zb_model.specs.Fits.{keeps_rules, role_is_kept, all_apart, like_rows, same_bool, most_links, active_is_live}
use Rattle.law_change_fits.proofs.Tests.{both, all_map, apart_map}
use Rattle.law_change_fits.proofs.Parts.{Rules, rules_back, links_alike, kinds_alike, told_apart, link_rule}

-- other link rows instead of the present ones
pub record LinkRules (role : Role) (links : List LinkKey) : Type 0 where
  pub room : length links ≤ most_links role
  pub keys : all_apart links_alike links ≡ true
  pub kinds : all_apart kinds_alike links ≡ true
  pub told : all_apart told_apart links ≡ true
  pub marks : list_all (link_rule role) links ≡ true

pub link_rules : (s : NodeState) → Rules s → LinkRules s.role s.links
link_rules s r = record { room = r.links_room; keys = r.link_keys; kinds = r.kinds; told = r.told; marks = r.marks }

pub links_kept : (s : NodeState) (links : List LinkKey) → Rules s → LinkRules s.role links
    → keeps_rules (record s { links = links }) ≡ true
unfolding role_is_kept active_is_live
links_kept s links r l =
    rules_back (record s { links = links }) (record {
      nets_room = r.nets_room;
      links_room = l.room;
      pairs_room = r.pairs_room;
      net_keys = r.net_keys;
      link_keys = l.keys;
      two = r.two;
      active = r.active;
      kinds = l.kinds;
      told = l.told;
      marks = l.marks;
      floors = r.floors;
      limits = r.limits;
      role_kept = r.role_kept;
      pairs = r.pairs;
      pair_names = r.pair_names;
    })

keys_left : (g : LinkKey → LinkKey) → ((r : LinkKey) → (g r).key ≡ r.key) → (links : List LinkKey)
    → all_apart links_alike links ≡ true → all_apart links_alike (map g links) ≡ true
keys_left g key links a =
    apart_map links_alike links_alike g
    (λ x y e. ap (λ k. same_key k (g y).key) (key x) ∙ ap (same_key x.key) (key y) ∙ e) links a

-- A change only of the floors of link rows
abbrev bare : LinkKey → LinkKey
bare r = record r { kept = 0; stored = 0 }

bare_kept : (g : LinkKey → LinkKey) → ((r : LinkKey) → bare (g r) ≡ bare r) → (role : Role) (links : List LinkKey)
    → LinkRules role links → LinkRules role (map g links)
bare_kept g each role links l = record {
  room = omega (arith, l.room, length-map links g);
  keys = keys_left g (λ r. ap (λ (x : LinkKey). x.key) (each r)) links l.keys;
  kinds =
      apart_map kinds_alike kinds_alike g
      (λ a b e. ap (λ (x : LinkKey). kinds_alike x (g b)) (each a) ∙ ap (λ (x : LinkKey). kinds_alike a x) (each b) ∙
      e) links l.kinds;
  told = apart_map told_apart told_apart g
      (λ a b e. ap (λ (x : LinkKey). told_apart x (g b)) (each a) ∙ ap (λ (x : LinkKey). told_apart a x) (each b) ∙ e)
      links l.told;
  marks = all_map (link_rule role) (link_rule role) g (λ r e. ap (λ (x : LinkKey). link_rule role x) (each r) ∙ e)
      links l.marks;
}

pub link_floor_kept : (partner : ℕ) (key : Bytes) (value : ℕ) (role : Role) (links : List LinkKey)
    → LinkRules role links → LinkRules role (at_link partner key (link_floor value) links)
link_floor_kept partner key value role links l =
    bare_kept (λ (r : LinkKey). if is_link partner key r then link_floor value r
    else r) (λ r. at_test (is_link partner key r) r) role links l
  where
    at_test : (b : Bool) (r : LinkKey) → bare (if b then link_floor value r else r) ≡ bare r
    at_test true r = refl
    at_test false r = refl

-- A link key is dropped.
pub dropped_link_kept : (partner : ℕ) (key : Bytes) (role : Role) (links : List LinkKey) → LinkRules role links
    → LinkRules role (at_link partner key dropped_link links)
dropped_link_kept partner key role links l = record {
  room = omega (arith, l.room, length-map links (at));
  keys = keys_left at (λ r. key_of (is_link partner key r) r) links l.keys;
  kinds =
      apart_map kinds_alike kinds_alike at (λ a b e. kinds_of (is_link partner key a) (is_link partner key b) a b e)
      links l.kinds;
  told = apart_map told_apart told_apart at (λ a b e. told_of (is_link partner key a) (is_link partner key b) a b e)
      links l.told;
  marks = all_map (link_rule role) (link_rule role) at (λ r e. mark_of (is_link partner key r) r e) links l.marks;
}
  where
    at : LinkKey → LinkKey
    at r = if is_link partner key r then dropped_link r else r

    key_of : (b : Bool) (r : LinkKey) → (if b then dropped_link r else r).key ≡ r.key
    key_of true r = refl
    key_of false r = refl

    dead_second : (a : Bool) (c : Bool) → ((a && false) && c) ≡ false
    dead_second true c = refl
    dead_second false c = refl

    kinds_of : (b c : Bool) (x y : LinkKey) → kinds_alike x y ≡ false
        → kinds_alike (if b then dropped_link x else x) (if c then dropped_link y else y) ≡ false
    kinds_of true c x y e = refl
    kinds_of false true x y e = dead_second x.live _
    kinds_of false false x y e = e

    told_of : (b c : Bool) (x y : LinkKey) → told_apart x y ≡ false
        → told_apart (if b then dropped_link x else x) (if c then dropped_link y else y) ≡ false
    told_of true c x y e = refl
    told_of false true x y e = dead_second x.live _
    told_of false false x y e = e

    mark_of : (b : Bool) (r : LinkKey) → link_rule role r ≡ true → link_rule role (if b then dropped_link r else r)
        ≡ true
    mark_of true r e =
        (both (not r.told || (r.live && is_centre role)) (not (is_provisional r.attribute) || r.code) e).1
    mark_of false r e = e

-- Rows in use are told, or not.

abbrev marked : ℕ → Bool → LinkKey → LinkKey
marked device told r = if is_live_of device r then told_as told r else r

marked_key : (b told : Bool) (r : LinkKey) → (if b then told_as told r else r).key ≡ r.key
marked_key true told r = refl
marked_key false told r = refl

marked_kinds : (b c told : Bool) (x y : LinkKey)
    → kinds_alike (if b then told_as told x else x) (if c then told_as told y else y) ≡ kinds_alike x y
marked_kinds true true told x y = refl
marked_kinds true false told x y = refl
marked_kinds false true told x y = refl
marked_kinds false false told x y = refl

same_bool_refl : (b : Bool) → same_bool b b ≡ true
same_bool_refl true = refl
same_bool_refl false = refl

and_false : (a : Bool) → (a && false) ≡ false
and_false true = refl
and_false false = refl

-- rows of one partner in use are both of the device, or neither
alike_of : (device : ℕ) (x y : LinkKey) → like_rows x y ≡ true → is_live_of device x ≡ is_live_of device y
alike_of device x y e =
    let one = both x.live (y.live && nat_eq x.partner y.partner) e in
    let two = both y.live (nat_eq x.partner y.partner) one.1 in
    rw (one.0, two.0, eqb-true _ _ two.1) refl

marked_told : (device : ℕ) (told : Bool) (x y : LinkKey) → told_apart x y ≡ false
    → told_apart (marked device told x) (marked device told y) ≡ false
marked_told device told x y e = by_like (like_rows x y) refl
  where
    likes : (b c : Bool) → like_rows (if b then told_as told x else x) (if c then told_as told y else y)
        ≡ like_rows x y
    likes true true = refl
    likes true false = refl
    likes false true = refl
    likes false false = refl

    both_ways : (b c : Bool) → b ≡ c → not (same_bool x.told y.told) ≡ false
        → not (same_bool (if b then told_as told x else x).told (if c then told_as told y else y).told) ≡ false
    both_ways true true same old = ap not (same_bool_refl told)
    both_ways false false same old = old
    both_ways true false same old = absurd (cc)
    both_ways false true same old = absurd (cc)

    by_like : (b : Bool) → like_rows x y ≡ b → told_apart (marked device told x) (marked device told y) ≡ false
    by_like true is =
        let old : not (same_bool x.told y.told) ≡ false = rw is at e in
        ap (λ b. b && not (same_bool (marked device told x).told (marked device told y).told))
        (likes (is_live_of device x) (is_live_of device y) ∙ is)
        ∙ both_ways (is_live_of device x) (is_live_of device y) (alike_of device x y is) old
    by_like false is = ap (λ b. b && not (same_bool (marked device told x).told (marked device told y).told))
        (likes (is_live_of device x) (is_live_of device y) ∙ is)

marked_mark : (role : Role) (device : ℕ) (told : Bool) (r : LinkKey) → (told ≡ true → is_centre role ≡ true)
    → link_rule role r ≡ true → link_rule role (marked device told r) ≡ true
marked_mark role device told r centre e = at_test (is_live_of device r) refl told refl
  where
    code : (not (is_provisional r.attribute) || r.code) ≡ true
    code = (both (not r.told || (r.live && is_centre role)) (not (is_provisional r.attribute) || r.code) e).1

    at_test : (b : Bool) → is_live_of device r ≡ b → (t : Bool) → told ≡ t
        → link_rule role (if b then told_as t r else r) ≡ true
    at_test true is true t =
        let live : r.live ≡ true = (both r.live (nat_eq r.partner device) is).0 in
        rw (live, centre t, code) refl
    at_test true is false t = code
    at_test false is t at = e

pub marked_kept : (device : ℕ) (told : Bool) (role : Role) (links : List LinkKey)
    → (told ≡ true → is_centre role ≡ true) → LinkRules role links → LinkRules role (with_told device told links)
marked_kept device told role links centre l = record {
  room = omega (arith, l.room, length-map links (marked device told));
  keys = keys_left (marked device told) (λ r. marked_key (is_live_of device r) told r) links l.keys;
  kinds = apart_map kinds_alike kinds_alike (marked device told)
      (λ x y e. marked_kinds (is_live_of device x) (is_live_of device y) told x y ∙ e) links l.kinds;
  told = apart_map told_apart told_apart (marked device told) (marked_told device told) links l.told;
  marks = all_map (link_rule role) (link_rule role) (marked device told)
      (λ r e. marked_mark role device told r centre e) links l.marks;
}

-- No row is told.
pub untold_kept : (role : Role) (links : List LinkKey) → LinkRules role links
    → LinkRules role (map (told_as false) links)
untold_kept role links l = record {
  room = omega (arith, l.room, length-map links (told_as false));
  keys = keys_left (told_as false) (λ r. refl) links l.keys;
  kinds = apart_map kinds_alike kinds_alike (told_as false) (λ x y e. e) links l.kinds;
  told = apart_map told_apart told_apart (told_as false) (λ x y e. and_false (like_rows x y)) links l.told;
  marks = all_map (link_rule role) (link_rule role) (told_as false)
      (λ r e. (both (not r.told || (r.live && is_centre role)) (not (is_provisional r.attribute) || r.code) e).1)
      links l.marks;
}
