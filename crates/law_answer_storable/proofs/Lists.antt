-- Lists of rows: what is found in them, what a filter leaves, and items of which no two are alike.
use Rattle.std.proofs.Common.{◌≡◌, List, [], ◌∷◌, map, refl, sym, ap, ◌∙◌, subst, Bool, true, false, not, if◌then◌else◌, ◌&&◌, ◌||◌, Option, Some, None, option_map}
use Rattle.std.specs.Prelude.{find, filter, reverse, is_some, option_to_list}
use Rattle.std.specs.List.{list_any}
use Rattle.std.proofs.lemmas.Bool.{not-true}
use mathlib.Core.List.{reverse_aux}
use Rattle.zb_model.specs.Fits.{all_apart}
use Rattle.law_change_fits.proofs.Tests.{both, neither, never, none_where, or_true}

-- what is found passes the test, and if it passes another test, some item passes that test

abbrev Passes : {X : Type 0} → (X → Bool) → Option X → Type 0
Passes q None = Unit {0}
Passes q (Some x) = q x ≡ true

passes_found : {X : Type 0} (q : X → Bool) (xs : List X) → Passes q (find q xs)
passes_found q [] = tt
passes_found {X} q (x ∷ xs) = by_test (q x) refl (passes_found q xs)
  where
    by_test : (b : Bool) → q x ≡ b → Passes q (find q xs) → Passes q (if b then Some x else find q xs)
    by_test true e h = e
    by_test false e h = h

pub found_test : {X : Type 0} (q : X → Bool) (xs : List X) (x : X) → find q xs ≡ Some x → q x ≡ true
found_test q xs x e = subst (λ o. Passes q o) e (passes_found q xs)

abbrev Stands : {X : Type 0} → (X → Bool) → List X → Option X → Type 0
Stands f xs None = Unit {0}
Stands f xs (Some x) = f x ≡ true → list_any f xs ≡ true

stands_later : {X : Type 0} (f : X → Bool) (y : X) (xs : List X) (o : Option X) → Stands f xs o → Stands f (y ∷ xs) o
stands_later f y xs None h = tt
stands_later f y xs (Some x) h = λ e. or_true (f y) (list_any f xs) (h e)

or_first : (a b : Bool) → a ≡ true → (a || b) ≡ true
or_first a b e = rw e refl

stands_found : {X : Type 0} (q f : X → Bool) (xs : List X) → Stands f xs (find q xs)
stands_found q f [] = tt
stands_found {X} q f (x ∷ xs) = by_test (q x) (stands_later f x xs (find q xs) (stands_found q f xs))
  where
    by_test : (b : Bool) → Stands f (x ∷ xs) (find q xs) → Stands f (x ∷ xs) (if b then Some x else find q xs)
    by_test true h = λ e. or_first (f x) (list_any f xs) e
    by_test false h = h

pub found_any : {X : Type 0} (q f : X → Bool) (xs : List X) (x : X) → find q xs ≡ Some x → f x ≡ true → list_any f xs
    ≡ true
found_any q f xs x e = subst (λ o. Stands f xs o) e (stands_found q f xs)

pub found_is : {X : Type 0} (q : X → Bool) (xs : List X) → is_some (find q xs) ≡ list_any q xs
found_is q [] = refl
found_is {X} q (x ∷ xs) = by_test (q x) (found_is q xs)
  where
    by_test : (b : Bool) → is_some (find q xs) ≡ list_any q xs → is_some (if b then Some x else find q xs)
        ≡ (b || list_any q xs)
    by_test true e = refl
    by_test false e = e

pub found_none : {X : Type 0} (q : X → Bool) (xs : List X) → find q xs ≡ None → list_any q xs ≡ false
found_none q xs e = sym (found_is q xs) ∙ ap is_some e

pub found_map : {X : Type 0} (test : X → Bool) (f : X → X) → ((x : X) → test (f x) ≡ test x) → (xs : List X)
    → find test (map f xs) ≡ option_map f (find test xs)
found_map test f same [] = refl
found_map {X} test f same (x ∷ xs) = ap (λ b. if b then Some (f x) else find test (map f xs)) (same x) ∙ by_test
    (test x) (found_map test f same xs)
  where
    by_test : (b : Bool) → find test (map f xs) ≡ option_map f (find test xs)
        → (if b then Some (f x) else find test (map f xs)) ≡ option_map f (if b then Some x else find test xs)
    by_test true e = refl
    by_test false e = e

-- lists reversed, and filtered

any_turned : {X : Type 0} (f : X → Bool) (xs ys : List X) → list_any f (reverse_aux xs ys) ≡ true
    → (list_any f xs || list_any f ys) ≡ true
any_turned f [] ys e = e
any_turned f (x ∷ xs) ys e = shuffle (f x) (list_any f xs) (list_any f ys) (any_turned f xs (x ∷ ys) e)
  where
    shuffle : (a b c : Bool) → (b || (a || c)) ≡ true → ((a || b) || c) ≡ true
    shuffle true b c e = refl
    shuffle false true c e = refl
    shuffle false false c e = e

pub any_reverse : {X : Type 0} (f : X → Bool) (xs : List X) → list_any f (reverse xs) ≡ true → list_any f xs ≡ true
any_reverse f xs e = drop_end (list_any f xs) (any_turned f xs [] e)
  where
    drop_end : (b : Bool) → (b || false) ≡ true → b ≡ true
    drop_end true e = refl
    drop_end false e = e

pub any_filter : {X : Type 0} (f q : X → Bool) (xs : List X) → list_any f (filter q xs) ≡ true
    → list_any (λ x. q x && f x) xs ≡ true
any_filter f q [] e = e
any_filter {X} f q (x ∷ xs) e = by_test (q x) e (any_filter f q xs)
  where
    by_test : (b : Bool) → list_any f (if b then x ∷ filter q xs else filter q xs) ≡ true
        → (list_any f (filter q xs) ≡ true → list_any (λ x. q x && f x) xs ≡ true)
        → ((b && f x) || list_any (λ x. q x && f x) xs) ≡ true
    by_test true e later = first (f x) e later
      where
        first : (c : Bool) → (c || list_any f (filter q xs)) ≡ true
            → (list_any f (filter q xs) ≡ true → list_any (λ x. q x && f x) xs ≡ true)
            → (c || list_any (λ x. q x && f x) xs) ≡ true
        first true e later = refl
        first false e later = later e
    by_test false e later = later e

-- the first item that a filter leaves
abbrev pub Heads : {X : Type 0} → (X → Bool) → List X → List X → Type 0
Heads q xs [] = Unit {0}
Heads {X} q xs (y ∷ ys) = (q y ≡ true) × ((f : X → Bool) → f y ≡ true → list_any f xs ≡ true)

heads_later : {X : Type 0} (q : X → Bool) (x : X) (xs ys : List X) → Heads q xs ys → Heads q (x ∷ xs) ys
heads_later q x xs [] h = tt
heads_later q x xs (y ∷ ys) h = (h.0, λ f e. or_true (f x) (list_any f xs) (h.1 f e))

pub heads_of : {X : Type 0} (q : X → Bool) (xs : List X) → Heads q xs (filter q xs)
heads_of q [] = tt
heads_of {X} q (x ∷ xs) = by_test (q x) refl (heads_later q x xs (filter q xs) (heads_of q xs))
  where
    by_test : (b : Bool) → q x ≡ b → Heads q (x ∷ xs) (filter q xs) → Heads q (x ∷ xs) (if b then x ∷ filter q xs
        else filter q xs)
    by_test true e h = (e, λ f k. or_first (f x) (list_any f xs) k)
    by_test false e h = h

-- if none passes, none is left
pub none_left : {X : Type 0} (q : X → Bool) (xs : List X) → list_any q xs ≡ false → filter q xs ≡ []
none_left q [] e = refl
none_left q (x ∷ xs) e =
    let parts = neither (q x) (list_any q xs) e in
    rw parts.0 (none_left q xs parts.1)

-- if any two that pass are alike and no two items are alike, at most one passes, and it is found
pub one_left : {X : Type 0} (alike : X → X → Bool) (q : X → Bool)
    → ((x y : X) → q x ≡ true → q y ≡ true → alike x y ≡ true)
    → (xs : List X) → all_apart alike xs ≡ true → filter q xs ≡ option_to_list (find q xs)
one_left alike q each [] apart = refl
one_left {X} alike q each (x ∷ xs) apart =
    let parts = both (not (list_any (alike x) xs)) (all_apart alike xs) apart in
    by_test (q x) refl (not-true _ parts.0) (one_left alike q each xs parts.1)
  where
    turned : (y : X) → q x ≡ true → alike x y ≡ false → (b : Bool) → q y ≡ b → b ≡ false
    turned y qx other true qy = never (alike x y) (each x y qx qy) other
    turned y qx other false qy = refl

    by_test : (b : Bool) → q x ≡ b → list_any (alike x) xs ≡ false → filter q xs ≡ option_to_list (find q xs)
        → (if b then x ∷ filter q xs else filter q xs) ≡ option_to_list (if b then Some x else find q xs)
    by_test true e alone later =
        ap (λ l. x ∷ l) (none_left q xs (none_where (alike x) q (λ y other. turned y e other (q y) refl) xs alone))
    by_test false e alone later = later
