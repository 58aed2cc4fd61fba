-- The order of a key's type distinguishes keys by their bytes.
use Rattle.std.proofs.Common.{◌≡◌, ℕ, List, [], ◌∷◌, Bool, true, false, cond, ◌||◌, refl, ap, sym, ◌∙◌, bytes_eq}
use Rattle.std.specs.List.{list_any}
use Rattle.std.specs.declared.cmp.Ordering.{Ordering}
use Rattle.std.specs.Ordering.{is_eq, nat_cmp}
use Rattle.std.specs.BTreeMap.{is_at}
use Rattle.std.specs.Cmp.Lexicographic.{slice_cmp, texts_ties}
use Rattle.std.proofs.lemmas.Slice.Eq.{bytes_eq-Decides}
use Rattle.zb_base.specs.declared.key.Key.{Key}
use Rattle.zb_trace_watch.specs.Sets.{meet}

pub list_any_alike : {X : Type 0} (p q : X → Bool) → ((x : X) → p x ≡ q x) → (xs : List X) → list_any p xs
    ≡ list_any q xs
list_any_alike p q alike [] = refl
list_any_alike p q alike (x ∷ xs) = rw (alike x, list_any_alike p q alike xs) refl

pub bytes_alike : (a b : List ℕ) → is_eq (slice_cmp nat_cmp a b) ≡ bytes_eq a b
bytes_alike a b = sym (texts_ties a b)

pub true_or : (same before : Bool) → cond same true before ≡ (before || same)
true_or true true = refl
true_or true false = refl
true_or false true = refl
true_or false false = refl

pub both_or : (a b c d : Bool) → a ≡ b → c ≡ d → (a || c) ≡ (b || d)
both_or a b c d e f = rw (e, f) refl

one_way : (a b : Bool) → (a ≡ true → b ≡ true) → (b ≡ true → a ≡ true) → a ≡ b
one_way true true f g = refl
one_way true false f g = sym (f refl)
one_way false true f g = g refl
one_way false false f g = refl

pub bytes_eq_sym : (a b : List ℕ) → bytes_eq a b ≡ bytes_eq b a
bytes_eq_sym a b =
    one_way (bytes_eq a b) (bytes_eq b a) (λ h. (bytes_eq-Decides b a).1 (sym ((bytes_eq-Decides a b).0 h)))
    (λ h. (bytes_eq-Decides a b).1 (sym ((bytes_eq-Decides b a).0 h)))

-- After an insertion a set has what it had, and what was inserted.
pub added_alike : {K : Type 0} (cmp : K → K → Ordering) (same : K → K → Bool)
    → ((a b : K) → is_eq (cmp a b) ≡ same a b) → ((a b : K) → same a b ≡ same b a)
    → (old new : List K) (key q : K) → list_any (is_at (cmp q)) new
    ≡ cond (is_at (cmp key) q) true (list_any (is_at (cmp q)) old)
    → list_any (same q) new ≡ (list_any (same q) old || same q key)
added_alike cmp same alike turned old new key q updated =
    sym (list_any_alike (is_at (cmp q)) (same q) (alike q) new)
    ∙ (updated
    ∙ (true_or (is_eq (cmp key q)) (list_any (is_at (cmp q)) old)
    ∙ both_or _ _ _ _ (list_any_alike (is_at (cmp q)) (same q) (alike q) old) (alike key q ∙ turned key q)))

-- Lists in which one item has a property with one of another list.

pub any_or : {X : Type 0} (p q : X → Bool) (xs : List X) → list_any (λ x. p x || q x) xs
    ≡ (list_any p xs || list_any q xs)
any_or p q [] = refl
any_or p q (x ∷ xs) = ap (λ (b : Bool). (p x || q x) || b) (any_or p q xs) ∙ swapped (p x) (q x) (list_any p xs)
    (list_any q xs)
  where
    swapped : (a b c d : Bool) → ((a || b) || (c || d)) ≡ ((a || c) || (b || d))
    swapped true b c d = refl
    swapped false true true d = refl
    swapped false true false d = refl
    swapped false false c d = refl

pub none_of : {X : Type 0} (xs : List X) → list_any (λ (x : X). false) xs ≡ false
none_of [] = refl
none_of (x ∷ xs) = none_of xs

pub any_any : {X Y : Type 0} (p : X → Y → Bool) (xs : List X) (ys : List Y) → list_any (λ x. list_any (p x) ys) xs
    ≡ list_any (λ y. list_any (λ x. p x y) xs) ys
any_any p xs [] = none_of xs
any_any p xs (y ∷ ys) = any_or (λ x. p x y) (λ x. list_any (p x) ys) xs ∙ ap
    (λ (b : Bool). list_any (λ x. p x y) xs || b) (any_any p xs ys)

pub meet_turned : (keys others : List Key) → meet keys others ≡ meet others keys
meet_turned keys others =
    any_any (λ (a b : Key). bytes_eq a.0 b.0) keys others
    ∙ list_any_alike (λ (b : Key). list_any (λ (a : Key). bytes_eq a.0 b.0) keys)
    (λ (b : Key). list_any (λ (a : Key). bytes_eq b.0 a.0) keys)
    (λ b. list_any_alike (λ (a : Key). bytes_eq a.0 b.0) (λ (a : Key). bytes_eq b.0 a.0) (λ a. bytes_eq_sym a.0 b.0)
    keys) others
