-- A link row is new or is used again, and whether the rules are kept after it.
use Rattle.std.proofs.Common.{◌≡◌, ℕ, ◌<◌, List, [], ◌∷◌, ◌++◌, length, refl, sym, ap, ◌∙◌, arith, Bool, true, false, not, if◌then◌else◌, ◌&&◌, ◌||◌, length-append}
use Rattle.std.specs.Prelude.{nat_lt, nat_eq}
use Rattle.std.specs.List.{list_any, list_all}
use Rattle.std.proofs.lemmas.Bool.{not-true, lt-ltb, ltb-true, eq-eqb, eqb-true}
use Rattle.std.proofs.lemmas.List.{length-map}
use Rattle.std.proofs.lemmas.List.Folds.{list_all-append}
use Rattle.zb_model.specs.Data.{Bytes, Role, Attribute}
use Rattle.zb_model.specs.State.{NodeState, LinkKey, same_key, is_centre, is_provisional, is_unverified, is_link, has_link, is_live_of, is_told, at_link, revived, new_link, with_link}
use Rattle.zb_model.specs.Fits.{keeps_rules, all_apart, like_rows, same_bool, most_links}
use Rattle.law_change_fits.specs.Fitting.{is_rival, key_is_used}
use Rattle.law_change_fits.proofs.Tests.{both, never, same_both, all_map, any_all, none_where, none_both, apart_from, apart_seen, apart_snoc, not_apart}
use Rattle.law_change_fits.proofs.Parts.{Rules, rules_of, links_alike, kinds_alike, told_apart, link_rule, same_key_is, same_key_of}
use Rattle.law_change_fits.proofs.Links.{LinkRules, link_rules, links_kept}

same_bool_sym : (a b : Bool) → same_bool a b ≡ same_bool b a
same_bool_sym true true = refl
same_bool_sym true false = refl
same_bool_sym false true = refl
same_bool_sym false false = refl

-- The rows of a partner in use are reported as the partner is.

-- a row of the partner in use whose mark as told differs
abbrev is_odd : ℕ → Bool → LinkKey → Bool
is_odd partner told r = is_live_of partner r && not (same_bool r.told told)

nat_eq_sym : (a b : ℕ) → nat_eq a b ≡ true → nat_eq b a ≡ true
nat_eq_sym a b e = eq-eqb _ _ (sym (eqb-true _ _ e))

-- two rows of the partner in use
likes : (partner : ℕ) (x y : LinkKey) → is_live_of partner x ≡ true → is_live_of partner y ≡ true → like_rows x y
    ≡ true
likes partner x y a b =
    let one = both x.live (nat_eq x.partner partner) a in
    let two = both y.live (nat_eq y.partner partner) b in
    let same : nat_eq x.partner y.partner ≡ true = eq-eqb _ _ (eqb-true _ _ one.1 ∙ sym (eqb-true _ _ two.1)) in
    rw (one.0, two.0, same) refl

none_odd : (partner : ℕ) (told : Bool) (links : List LinkKey)
    → list_any (λ (r : LinkKey). is_live_of partner r && r.told) links ≡ told → all_apart told_apart links ≡ true
    → list_any (is_odd partner told) links ≡ false
none_odd partner false links is apart = none_where (λ (r : LinkKey). is_live_of partner r && r.told)
    (is_odd partner false) (λ r e. at_tests (is_live_of partner r) r.told e) links is
  where
    at_tests : (b c : Bool) → (b && c) ≡ false → (b && not (same_bool c false)) ≡ false
    at_tests true true e = absurd (cc)
    at_tests true false e = refl
    at_tests false c e = refl
none_odd partner true links is apart = by_test (list_any (is_odd partner true) links) refl
  where
    ends : (b c : Bool) → (b && not (same_bool c true)) ≡ true → (b ≡ true) × (c ≡ false)
    ends true true e = absurd (cc)
    ends true false e = (refl, refl)
    ends false c e = absurd (cc)

    clash : (b c : Bool) → b ≡ true → c ≡ false → (not (same_bool b c) ≡ true) × (not (same_bool c b) ≡ true)
    clash true false p q = (refl, refl)
    clash true true p q = absurd (cc)
    clash false c p q = absurd (cc)

    one_way : (x y : LinkKey) → (is_live_of partner x && x.told) ≡ true → is_odd partner true y ≡ true
        → told_apart x y ≡ true
    one_way x y p q =
        let a = both (is_live_of partner x) x.told p in
        let b = ends (is_live_of partner y) y.told q in
        rw (likes partner x y a.0 b.0, (clash x.told y.told a.1 b.1).0) refl

    other_way : (x y : LinkKey) → (is_live_of partner x && x.told) ≡ true → is_odd partner true y ≡ true
        → told_apart y x ≡ true
    other_way x y p q =
        let a = both (is_live_of partner x) x.told p in
        let b = ends (is_live_of partner y) y.told q in
        rw (likes partner y x b.0 a.0, (clash x.told y.told a.1 b.1).1) refl

    not_both : (x : LinkKey) → (is_live_of partner x && x.told) ≡ true → is_odd partner true x ≡ true → ⊥
    not_both x p q =
        let a = both (is_live_of partner x) x.told p in
        let b = ends (is_live_of partner x) x.told q in
        never x.told a.1 b.1

    by_test : (b : Bool) → list_any (is_odd partner true) links ≡ b → list_any (is_odd partner true) links ≡ false
    by_test false e = e
    by_test true e =
        absurd (not_apart told_apart (λ (r : LinkKey). is_live_of partner r && r.told) (is_odd partner true) one_way
        other_way not_both links is e apart)

-- if a partner is told, the node is the centre
told_centre : (role : Role) (partner : ℕ) (links : List LinkKey) → list_all (link_rule role) links ≡ true
    → list_any (λ (r : LinkKey). is_live_of partner r && r.told) links ≡ true → is_centre role ≡ true
told_centre role partner links marks some =
    any_all (λ (r : LinkKey). is_live_of partner r && r.told) (link_rule role)
    (λ r p q.
    let told = (both (is_live_of partner r) r.told p).1 in
    at_test r.told r.live told
    (both (not r.told || (r.live && is_centre role)) (not (is_provisional r.attribute) || r.code) q).0) links some
    marks
  where
    at_test : (b c : Bool) → b ≡ true → (not b || (c && is_centre role)) ≡ true → is_centre role ≡ true
    at_test true true t e = e
    at_test true false t e = absurd (cc)
    at_test false c t e = absurd (cc)

-- the partners of two rows are compared one way or the other
first : (partner : ℕ) (b c : Bool) (n : ℕ) → ((b && nat_eq n partner) && true) && c ≡ false → (b && nat_eq partner n)
    && c ≡ false
first partner false c n e = refl
first partner true c n e = swapped (nat_eq n partner) refl e
  where
    other : nat_eq n partner ≡ false → (d : Bool) → nat_eq partner n ≡ d → (d && c) ≡ false
    other is true is2 = never (nat_eq n partner) (nat_eq_sym partner n is2) is
    other is false is2 = refl

    swapped : (d : Bool) → nat_eq n partner ≡ d → ((true && d) && true) && c ≡ false → (true && nat_eq partner n) && c
        ≡ false
    swapped true is e = rw (nat_eq_sym n partner is) e
    swapped false is e = other is (nat_eq partner n) refl

second : (partner : ℕ) (b c : Bool) (n : ℕ) → ((b && nat_eq n partner) && true) && c ≡ false
    → (b && (true && nat_eq n partner)) && c ≡ false
second partner false c n e = refl
second partner true c n e = at_eq (nat_eq n partner) e
  where
    at_eq : (d : Bool) → ((true && d) && true) && c ≡ false → (true && (true && d)) && c ≡ false
    at_eq true e = e
    at_eq false e = refl

with_true : (a c : Bool) → (a && c) ≡ false → ((a && true) && c) ≡ false
with_true true c e = e
with_true false c e = refl

or_not : (a : Bool) → (not a || a) ≡ true
or_not true = refl
or_not false = refl

or_later : (a b : Bool) → (not a || (b || a)) ≡ true
or_later true true = refl
or_later true false = refl
or_later false b = refl

module _ (partner : ℕ) (key : Bytes) (attribute : Attribute) (told : Bool) (role : Role) (links : List LinkKey)
    (l : LinkRules role links) (is : list_any (λ (r : LinkKey). is_live_of partner r && r.told) links ≡ told) where
  odd_free : list_any (is_odd partner told) links ≡ false
  odd_free = none_odd partner told links is l.told

  centre_if : told ≡ true → is_centre role ≡ true
  centre_if t = told_centre role partner links l.marks (is ∙ t)

  -- a row that is there is revived
  back : LinkKey → LinkKey
  back r = if is_link partner key r then revived attribute told r else r

  back_key : (b : Bool) (r : LinkKey) → (if b then revived attribute told r else r).key ≡ r.key
  back_key true r = refl
  back_key false r = refl

  back_keys : (x y : LinkKey) → links_alike x y ≡ false → links_alike (back x) (back y) ≡ false
  unfolding back
  back_keys x y e = ap (λ k. same_key k (back y).key) (back_key (is_link partner key x) x) ∙ ap (same_key x.key)
      (back_key (is_link partner key y) y) ∙ e

  -- the row of the key in addition to another row of the partner
  of_key : (x : LinkKey) → is_link partner key x ≡ true → (x.partner ≡ partner) × (x.key ≡ key)
  of_key x e =
      let parts = both (nat_eq x.partner partner) (same_key x.key key) e in
      (eqb-true _ _ parts.0, same_key_is _ _ parts.1)

  two_of_key : {X : Type 0} (x y : LinkKey) → is_link partner key x ≡ true → is_link partner key y ≡ true
      → links_alike x y ≡ false → X
  two_of_key x y p q e =
      let a = of_key x p in
      let b = of_key y q in
      never (same_key x.key y.key) (same_key_of _ _ (a.1 ∙ sym b.1)) e

  back_kinds : (x y : LinkKey) → kinds_alike x y ≡ false → links_alike x y ≡ false → is_rival partner key attribute x
      ≡ false → is_rival partner key attribute y ≡ false → kinds_alike (back x) (back y) ≡ false
  unfolding back
  back_kinds x y e k p q = at_tests (is_link partner key x) (is_link partner key y) refl refl
    where
      at_tests : (b c : Bool) → is_link partner key x ≡ b → is_link partner key y ≡ c
          → kinds_alike (if b then revived attribute told x else x) (if c then revived attribute told y else y) ≡ false
      at_tests true true ix iy = two_of_key x y ix iy k
      at_tests true false ix iy =
          let r :
          ((is_live_of partner y && not false) && same_bool (is_unverified y.attribute) (is_unverified attribute))
          ≡ false = rw iy at q in
          let a = of_key x ix in
          rw a.0 (first partner y.live (same_bool (is_unverified attribute) (is_unverified y.attribute)) y.partner
          (ap (λ s. (is_live_of partner y && true) && s)
          (same_bool_sym (is_unverified attribute) (is_unverified y.attribute)) ∙ r))
      at_tests false true ix iy =
          let r :
          ((is_live_of partner x && not false) && same_bool (is_unverified x.attribute) (is_unverified attribute))
          ≡ false = rw ix at p in
          let b = of_key y iy in
          rw b.0 (second partner x.live (same_bool (is_unverified x.attribute) (is_unverified attribute)) x.partner r)
      at_tests false false ix iy = e

  back_told : (x y : LinkKey) → told_apart x y ≡ false → links_alike x y ≡ false → is_odd partner told x ≡ false
      → is_odd partner told y ≡ false → told_apart (back x) (back y) ≡ false
  unfolding back
  back_told x y e k p q = at_tests (is_link partner key x) (is_link partner key y) refl refl
    where
      turned : (a b : Bool) → not (same_bool a b) ≡ not (same_bool b a)
      turned a b = ap not (same_bool_sym a b)

      at_tests : (b c : Bool) → is_link partner key x ≡ b → is_link partner key y ≡ c
          → told_apart (if b then revived attribute told x else x) (if c then revived attribute told y else y) ≡ false
      at_tests true true ix iy = two_of_key x y ix iy k
      at_tests true false ix iy =
          let a = of_key x ix in
          rw a.0 (first partner y.live (not (same_bool told y.told)) y.partner
          (with_true (is_live_of partner y) (not (same_bool told y.told))
          (ap (λ s. is_live_of partner y && s) (turned told y.told) ∙ q)))
      at_tests false true ix iy =
          let b = of_key y iy in
          rw b.0 (second partner x.live (not (same_bool x.told told)) x.partner
          (with_true (is_live_of partner x) (not (same_bool x.told told)) p))
      at_tests false false ix iy = e

  told_mark : (not told || (true && is_centre role)) ≡ true
  told_mark = at_test told refl
    where
      at_test : (t : Bool) → told ≡ t → (not t || (true && is_centre role)) ≡ true
      at_test true e = centre_if e
      at_test false e = refl

  back_mark : (r : LinkKey) → link_rule role r ≡ true → link_rule role (back r) ≡ true
  unfolding back
  back_mark r e = at_test (is_link partner key r)
    where
      at_test : (b : Bool) → link_rule role (if b then revived attribute told r else r) ≡ true
      at_test true = rw (told_mark) (or_later (is_provisional attribute) r.code)
      at_test false = e

  pub revived_kept : list_any (is_rival partner key attribute) links ≡ false
      → LinkRules role (at_link partner key (revived attribute told) links)
  unfolding back
  revived_kept alone = record {
    room = omega (arith, l.room, length-map links back);
    keys = apart_from links_alike links_alike links_alike (is_odd partner told) back (λ x y e k p q. back_keys x y e)
        links l.keys l.keys odd_free;
    kinds = apart_from kinds_alike links_alike kinds_alike (is_rival partner key attribute) back back_kinds links
        l.kinds l.keys alone;
    told = apart_from told_apart links_alike told_apart (is_odd partner told) back back_told links l.told l.keys
        odd_free;
    marks = all_map (link_rule role) (link_rule role) back back_mark links l.marks;
  }

  -- and if it has a rival, the rules break
  pub revived_broken : has_link partner key links ≡ true → list_any (is_rival partner key attribute) links ≡ true
      → all_apart kinds_alike (at_link partner key (revived attribute told) links) ≡ true → ⊥
  unfolding back
  revived_broken there rival apart =
      not_apart (λ (a b : LinkKey). kinds_alike (back a) (back b)) (is_link partner key)
      (is_rival partner key attribute) one_way other_way not_both links there rival
      (sym (apart_seen kinds_alike back links) ∙ apart)
    where
      parts_of : (y : LinkKey) → is_rival partner key attribute y ≡ true → (is_live_of partner y ≡ true)
          × (is_link partner key y ≡ false) × (same_bool (is_unverified y.attribute) (is_unverified attribute) ≡ true)
      parts_of y e =
          let a = both (is_live_of partner y && not (is_link partner key y))
          (same_bool (is_unverified y.attribute) (is_unverified attribute)) e in
          let b = both (is_live_of partner y) (not (is_link partner key y)) a.0 in
          (b.0, not-true _ b.1, a.1)

      one_way : (x y : LinkKey) → is_link partner key x ≡ true → is_rival partner key attribute y ≡ true
          → kinds_alike (back x) (back y) ≡ true
      one_way x y p q =
          let a = of_key x p in
          let b = parts_of y q in
          let c = both y.live (nat_eq y.partner partner) b.0 in
          let d : nat_eq partner y.partner ≡ true = nat_eq_sym y.partner partner c.1 in
          let e : same_bool (is_unverified attribute) (is_unverified y.attribute) ≡ true =
          same_bool_sym (is_unverified attribute) (is_unverified y.attribute) ∙ b.2 in
          rw (p, b.1, a.0, c.0, d, e) refl

      other_way : (x y : LinkKey) → is_link partner key x ≡ true → is_rival partner key attribute y ≡ true
          → kinds_alike (back y) (back x) ≡ true
      other_way x y p q =
          let a = of_key x p in
          let b = parts_of y q in
          let c = both y.live (nat_eq y.partner partner) b.0 in
          rw (p, b.1, a.0, c.0, c.1, b.2) refl

      not_both : (x : LinkKey) → is_link partner key x ≡ true → is_rival partner key attribute x ≡ true → ⊥
      not_both x p q = never (is_link partner key x) p (parts_of x q).1

  -- a row that is new
  fresh : LinkKey
  fresh = new_link partner key attribute told

  rival_is_alike : (y : LinkKey) → kinds_alike y fresh ≡ false → is_rival partner key attribute y ≡ false
  unfolding fresh
  rival_is_alike y e = at_tests y.live (nat_eq y.partner partner) (is_link partner key y)
      (same_bool (is_unverified y.attribute) (is_unverified attribute)) e
    where
      at_tests : (a b c d : Bool) → ((a && (true && b)) && d) ≡ false → (((a && b) && not c) && d) ≡ false
      at_tests true true true d e = refl
      at_tests true true false d e = e
      at_tests true false c d e = refl
      at_tests false b c d e = refl

  alike_is_rival : (y : LinkKey) → is_link partner key y ≡ false → is_rival partner key attribute y ≡ false
      → kinds_alike y fresh ≡ false
  unfolding fresh
  alike_is_rival y other e =
      let r : ((is_live_of partner y && not false) && same_bool (is_unverified y.attribute) (is_unverified attribute))
      ≡ false = rw other at e in
      second partner y.live (same_bool (is_unverified y.attribute) (is_unverified attribute)) y.partner r

  pub added_kept : has_link partner key links ≡ false → length links < most_links role → key_is_used key links ≡ false
      → list_any (is_rival partner key attribute) links ≡ false
      → LinkRules role (links ++ new_link partner key attribute told ∷ [])
  unfolding fresh
  added_kept absent room unused alone = record {
    room = omega (arith, room, length-append links (fresh ∷ []));
    keys = apart_snoc links_alike links fresh ∙ rw (l.keys, unused) refl;
    kinds = let none : list_any (λ (y : LinkKey). kinds_alike y fresh) links ≡ false =
        none_both (is_link partner key) (is_rival partner key attribute) (λ (y : LinkKey). kinds_alike y fresh)
        alike_is_rival links absent alone in
        apart_snoc kinds_alike links fresh ∙ rw (l.kinds, none) refl;
    told = let none : list_any (λ (y : LinkKey). told_apart y fresh) links ≡ false =
        none_where (is_odd partner told) (λ (y : LinkKey). told_apart y fresh)
        (λ y e. second partner y.live (not (same_bool y.told told)) y.partner
        (with_true (is_live_of partner y) (not (same_bool y.told told)) e)) links odd_free in
        apart_snoc told_apart links fresh ∙ rw (l.told, none) refl;
    marks = list_all-append (link_rule role) links (fresh ∷ []) ∙ rw (l.marks, told_mark)
        (or_end (or_not (is_provisional attribute)));
  }
    where
      or_end : {b : Bool} → b ≡ true → (b && true) ≡ true
      or_end e = rw e refl

  pub added_fits : LinkRules role (links ++ new_link partner key attribute told ∷ [])
      → (length links < most_links role) × (key_is_used key links ≡ false)
      × (list_any (is_rival partner key attribute) links ≡ false)
  unfolding fresh
  added_fits after =
      let used = both (all_apart links_alike links) (not (key_is_used key links))
      (sym (apart_snoc links_alike links fresh) ∙ after.keys) in
      let alone = both (all_apart kinds_alike links) (not (list_any (λ (y : LinkKey). kinds_alike y fresh) links))
      (sym (apart_snoc kinds_alike links fresh) ∙ after.kinds) in (
        omega (arith, after.room, length-append links (fresh ∷ [])),
        not-true _ used.1,
        none_where (λ (y : LinkKey). kinds_alike y fresh) (is_rival partner key attribute) rival_is_alike links
            (not-true _ alone.1),
      )

-- the row of a key and its partner
pub row_kept : (partner : ℕ) (key : Bytes) (attribute : Attribute) (s : NodeState) → Rules s
    → keeps_rules (record s { links = with_link partner key attribute (is_told s partner) s.links })
    ≡ ((has_link partner key s.links
    || (nat_lt (length s.links) (most_links s.role) && not (key_is_used key s.links)))
    && not (list_any (is_rival partner key attribute) s.links))
unfolding is_told
row_kept partner key attribute s r = at_test (has_link partner key s.links) refl
  where
    alone_of : (b : Bool) → list_any (is_rival partner key attribute) s.links ≡ b → (b ≡ true → ⊥) → not b ≡ true
    alone_of true e broken = absurd (broken refl)
    alone_of false e broken = refl

    at_test : (b : Bool) → has_link partner key s.links ≡ b
        → keeps_rules
        (record s {
          links = if b
              then at_link partner key
              (revived attribute (list_any (λ (x : LinkKey). is_live_of partner x && x.told) s.links)) s.links
              else s.links
              ++ new_link partner key attribute (list_any (λ (x : LinkKey). is_live_of partner x && x.told) s.links)
              ∷ [];
        })
        ≡ ((b || (nat_lt (length s.links) (most_links s.role) && not (key_is_used key s.links)))
        && not (list_any (is_rival partner key attribute) s.links))
    at_test true is =
        let t = list_any (λ (x : LinkKey). is_live_of partner x && x.told) s.links in
        same_both _ _
        (λ kept. alone_of (list_any (is_rival partner key attribute) s.links) refl
        (λ rival. revived_broken partner key attribute t s.role s.links (link_rules s r) refl is rival
        (rules_of _ kept).kinds))
        (λ fit. links_kept s _ r
        (revived_kept partner key attribute t s.role s.links (link_rules s r) refl (not-true _ fit)))
    at_test false is =
        let t = list_any (λ (x : LinkKey). is_live_of partner x && x.told) s.links in
        same_both _ _
        (λ kept.
        let fit = added_fits partner key attribute t s.role s.links (link_rules s r) refl
        (link_rules _ (rules_of _ kept)) in
        let room : nat_lt (length s.links) (most_links s.role) ≡ true = lt-ltb _ _ fit.0 in
        rw (room, fit.1, fit.2) refl)
        (λ fit.
        let one = both (nat_lt (length s.links) (most_links s.role) && not (key_is_used key s.links))
        (not (list_any (is_rival partner key attribute) s.links)) fit in
        let two = both (nat_lt (length s.links) (most_links s.role)) (not (key_is_used key s.links)) one.0 in
        links_kept s _ r
        (added_kept partner key attribute t s.role s.links (link_rules s r) refl is (ltb-true _ _ two.0)
        (not-true _ two.1) (not-true _ one.1)))
