-- Tables that keep the rules for records are sound: each row is found by its key, and floors ascend.
use Rattle.std.proofs.Common.{◌≡◌, ◌<◌, Bool, true, false, cond, not, ◌&&◌, nat_eq, nat_lt, find, List, [], ◌∷◌, Some, refl, ap, ◌∙◌}
use Rattle.std.proofs.lemmas.Bool.{and_parts, ltb-true, not-true, or_parts}
use Rattle.std.specs.List.{AllByRecursion, list_all, list_any}
use Rattle.law_run.proofs.Basics.{nat_eq-refl, same_key-refl}
use Rattle.law_run.proofs.FloorRows.{Sorted}
use Rattle.law_run.proofs.Sound.{EachFound, Sound, link_test, net_test}
use Rattle.zb_model.specs.Fits.{active_is_live, all_apart, at_most_two_live, floors_are_kept, keeps_rules, keys_differ, links_are_marked, most_senders, partners_agree, rows_have_room, senders_ascend}
use Rattle.zb_model.specs.State.{LinkKey, NetKey, NodeState, SenderFloor, same_key}

-- ---- rows that are apart are each found by their test

module _ {X : Type 0} (t alike : X → X → Bool) (own : (x : X) → t x x ≡ true)
    (apart : (x y : X) → alike x y ≡ false → t y x ≡ false) where
  later_found : (x : X) (ys xs : List X) → list_any (alike x) ys ≡ false
      → AllByRecursion (λ y. find (t y) xs ≡ Some y) ys → AllByRecursion (λ y. find (t y) (x ∷ xs) ≡ Some y) ys
  later_found x [] xs none all = tt
  later_found x (y ∷ ys) xs none all =
      let parts = or_parts (alike x y) (list_any (alike x) ys) none in (
        ap (λ b. cond b (Some x) (find (t y) xs)) (apart x y parts.0) ∙ all.0,
        later_found x ys xs parts.1 all.1,
      )

  each_found : (xs : List X) → all_apart alike xs ≡ true → EachFound t xs xs
  each_found [] e = tt
  each_found (x ∷ xs) e =
      let parts = and_parts (not (list_any (alike x) xs)) (all_apart alike xs) e in (
        ap (λ b. cond b (Some x) (find (t x) xs)) (own x),
        later_found x xs xs (not-true (list_any (alike x) xs) parts.0) (each_found xs parts.1),
      )

-- ---- floors

all_from : {X : Type 0} (P : X → Type 0) (test : X → Bool) → ((x : X) → test x ≡ true → P x) → (xs : List X)
    → list_all test xs ≡ true → AllByRecursion P xs
all_from P test each [] e = tt
all_from P test each (x ∷ xs) e =
    let parts = and_parts (test x) (list_all test xs) e in (each x parts.0, all_from P test each xs parts.1)

sorted : (fs : List SenderFloor) → senders_ascend fs ≡ true → Sorted fs
unfolding Sorted
sorted [] e = tt
sorted (f ∷ fs) e =
    let parts = and_parts (list_all (λ (g : SenderFloor). nat_lt f.sender g.sender) fs) (senders_ascend fs) e in (
      all_from (λ (g : SenderFloor). f.sender < g.sender) (λ (g : SenderFloor). nat_lt f.sender g.sender)
          (λ g. ltb-true f.sender g.sender) fs parts.0,
      sorted fs parts.1,
    )

-- ---- tables

and_no : (a b : Bool) → b ≡ false → (a && b) ≡ false
and_no true b e = e
and_no false b e = refl

abbrev same_nets : NetKey → NetKey → Bool
same_nets a b = same_key a.key b.key

abbrev same_links : LinkKey → LinkKey → Bool
same_links a b = same_key a.key b.key

own_link : (r : LinkKey) → link_test r r ≡ true
own_link r = ap (λ b. b && same_key r.key r.key) (nat_eq-refl r.partner) ∙ same_key-refl r.key

pub sound_by_rules : (s : NodeState) → keeps_rules s ≡ true → Sound s
unfolding keeps_rules keys_differ floors_are_kept
sound_by_rules s e =
    let room = and_parts (rows_have_room s) _ e in
    let keys = and_parts (all_apart same_nets s.nets && all_apart same_links s.links) _ room.1 in
    let differ = and_parts (all_apart same_nets s.nets) (all_apart same_links s.links) keys.0 in
    let two = and_parts (at_most_two_live s) _ keys.1 in
    let active = and_parts (active_is_live s) _ two.1 in
    let agree = and_parts (partners_agree s) _ active.1 in
    let marked = and_parts (links_are_marked s) _ agree.1 in
    let floors = and_parts
    (list_all
    (λ (r : NetKey). Rattle.std.specs.Prelude.nat_le (Rattle.std.specs.Prelude.length r.floors) most_senders
    && (list_all (λ (f : SenderFloor). nat_lt 0 f.stored) r.floors && senders_ascend r.floors)) s.nets) _ marked.1 in
    record {
      nets = each_found net_test same_nets (λ r. same_key-refl r.key) (λ a b e. e) s.nets differ.0;
      links = each_found link_test same_links own_link
          (λ a b e. and_no (nat_eq a.partner b.partner) (same_key a.key b.key) e) s.links differ.1;
      floors = all_from (λ (r : NetKey). Sorted r.floors) _
          (λ r e. sorted r.floors
          (and_parts (list_all (λ (f : SenderFloor). nat_lt 0 f.stored) r.floors) (senders_ascend r.floors)
          (and_parts (Rattle.std.specs.Prelude.nat_le (Rattle.std.specs.Prelude.length r.floors) most_senders)
          (list_all (λ (f : SenderFloor). nat_lt 0 f.stored) r.floors && senders_ascend r.floors) e).1).1)
          s.nets floors.0;
    }
