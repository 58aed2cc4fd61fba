-- A node that is offered no key of a partner has its current row as the only candidate for the partner's frames.
use Rattle.std.proofs.Common.{◌≡◌, ℕ, Bool, true, false, not, ◌&&◌, ◌||◌, if◌then◌else◌, List, [], ◌∷◌, filter, find, Some, None, option_to_list, is_some, nat_eq, refl, sym, ap, ◌∙◌, eq-eqb, eqb-true}
use Rattle.std.specs.List.{list_any}
use Rattle.std.proofs.lemmas.Bool.{false≢true, not-true}
use mathlib.Core.List.{reverse_aux}
use Rattle.zb_model.specs.Fits.{all_apart, keeps_rules}
use Rattle.zb_model.specs.Judging.{candidates}
use Rattle.zb_model.specs.State.{LinkKey, NodeState, is_live_of, is_unverified, current, offered}
use Rattle.law_change_fits.proofs.Parts.{kinds_alike, rules_of}
use Rattle.law_change_fits.proofs.Tests.{both, neither, never, none_where}

none_left : {X : Type 0} (q : X → Bool) (xs : List X) → list_any q xs ≡ false → filter q xs ≡ []
none_left q [] e = refl
none_left q (x ∷ xs) e =
    let parts = neither (q x) (list_any q xs) e in
    rw parts.0 (none_left q xs parts.1)

-- if any two that pass are alike and no two items are alike, at most one passes, and it is found
pub one_left : {X : Type 0} (alike : X → X → Bool) (q : X → Bool)
    → ((x y : X) → q x ≡ true → q y ≡ true → alike x y ≡ true)
    → (xs : List X) → all_apart alike xs ≡ true → filter q xs ≡ option_to_list (find q xs)
one_left alike q each [] apart = refl
one_left {X} alike q each (x ∷ xs) apart =
    let parts = both (not (list_any (alike x) xs)) (all_apart alike xs) apart in
    by_test (q x) refl (not-true _ parts.0) (one_left alike q each xs parts.1)
  where
    turned : (y : X) → q x ≡ true → alike x y ≡ false → (b : Bool) → q y ≡ b → b ≡ false
    turned y qx other true qy = never (alike x y) (each x y qx qy) other
    turned y qx other false qy = refl

    by_test : (b : Bool) → q x ≡ b → list_any (alike x) xs ≡ false → filter q xs ≡ option_to_list (find q xs)
        → (if b then x ∷ filter q xs else filter q xs) ≡ option_to_list (if b then Some x else find q xs)
    by_test true e alone later =
        ap (λ l. x ∷ l) (none_left q xs (none_where (alike x) q (λ y other. turned y e other (q y) refl) xs alone))
    by_test false e alone later = later

-- a list that is reversed, and then filtered
pub filter_turned : {X : Type 0} (q : X → Bool) (xs ys : List X) → filter q (reverse_aux xs ys)
    ≡ reverse_aux (filter q xs) (filter q ys)
filter_turned q [] ys = refl
filter_turned {X} q (x ∷ xs) ys = filter_turned q xs (x ∷ ys) ∙ by_test (q x)
  where
    by_test : (b : Bool) → reverse_aux (filter q xs) (if b then x ∷ filter q ys else filter q ys)
        ≡ reverse_aux (if b then x ∷ filter q xs else filter q xs) (filter q ys)
    by_test true = refl
    by_test false = refl

-- a second test that no item passes if it passes the first
without : {X : Type 0} (a b : X → Bool) (xs : List X) → list_any (λ x. a x && b x) xs ≡ false → filter a xs
    ≡ filter (λ x. a x && not (b x)) xs
without a b [] e = refl
without {X} a b (x ∷ xs) e =
    let parts = neither (a x && b x) (list_any (λ y. a y && b y) xs) e in
    by_tests (a x) (b x) parts.0 (without a b xs parts.1)
  where
    by_tests : (p q : Bool) → (p && q) ≡ false → filter a xs ≡ filter (λ y. a y && not (b y)) xs
        → (if p then x ∷ filter a xs else filter a xs) ≡ (if p && not q then x ∷ filter (λ y. a y && not (b y)) xs
        else filter (λ y. a y && not (b y)) xs)
    by_tests true true f h = absurd (false≢true (sym f))
    by_tests true false f h = ap (λ l. x ∷ l) h
    by_tests false q f h = h

pub found_any : {X : Type 0} (q : X → Bool) (xs : List X) → find q xs ≡ None → list_any q xs ≡ false
found_any q [] e = refl
found_any {X} q (x ∷ xs) e = by_test (q x) e (found_any q xs)
  where
    by_test : (b : Bool) → (if b then Some x else find q xs) ≡ None → (find q xs ≡ None → list_any q xs ≡ false)
        → (b || list_any q xs) ≡ false
    by_test true e h = absurd (false≢true (sym (ap is_some e)))
    by_test false e h = h e

abbrev is_current : ℕ → LinkKey → Bool
is_current p r = is_live_of p r && not (is_unverified r.attribute)

alike : (p : ℕ) (a b : LinkKey) → is_current p a ≡ true → is_current p b ≡ true → kinds_alike a b ≡ true
alike p a b x y =
    let xa = both (is_live_of p a) (not (is_unverified a.attribute)) x in
    let yb = both (is_live_of p b) (not (is_unverified b.attribute)) y in
    let la = both a.live (nat_eq a.partner p) xa.0 in
    let lb = both b.live (nat_eq b.partner p) yb.0 in
    let same : nat_eq a.partner b.partner ≡ true =
    eq-eqb a.partner b.partner (eqb-true a.partner p la.1 ∙ sym (eqb-true b.partner p lb.1)) in
    rw (la.0, lb.0, same, not-true (is_unverified a.attribute) xa.1, not-true (is_unverified b.attribute) yb.1) refl

pub one_candidate : (t : NodeState) (p : ℕ) (own : LinkKey) → keeps_rules t ≡ true → current t p ≡ Some own
    → offered t p ≡ None → candidates t p ≡ own ∷ []
unfolding candidates current offered
one_candidate t p own rules here none =
    filter_turned (is_live_of p) t.links []
    ∙ ap (λ l. reverse_aux l [])
    (without (is_live_of p) (λ (r : LinkKey). is_unverified r.attribute) t.links
    (found_any (λ (r : LinkKey). is_live_of p r && is_unverified r.attribute) t.links none)
    ∙ one_left kinds_alike (is_current p) (alike p) t.links (rules_of t rules).kinds ∙ ap option_to_list here)
