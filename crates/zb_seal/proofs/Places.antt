-- A list with one place changed.
use Rattle.std.proofs.Common.{◌≡◌, ℕ, zero, suc, List, [], ◌∷◌, ◌++◌, length, get_or, set, refl, ap}
use Rattle.zb_seal.specs.Wire.{at_place}

pub at_place_set : (change : ℕ → ℕ) (place : ℕ) (xs : List ℕ) → set xs place (change (get_or xs place 0))
    ≡ at_place change place xs
at_place_set change place [] = refl
at_place_set change zero (x ∷ xs) = refl
at_place_set change (suc place) (x ∷ xs) = ap (λ (l : List ℕ). x ∷ l) (at_place_set change place xs)

pub at_place-append : (change : ℕ → ℕ) (xs ys : List ℕ) (x : ℕ) → at_place change (length xs) (xs ++ (x ∷ ys)) ≡ xs
    ++ (change x ∷ ys)
at_place-append change [] ys x = refl
at_place-append change (y ∷ xs) ys x = ap (λ (l : List ℕ). y ∷ l) (at_place-append change xs ys x)

pub length-at_place : (change : ℕ → ℕ) (place : ℕ) (xs : List ℕ) → length (at_place change place xs) ≡ length xs
length-at_place change place [] = refl
length-at_place change zero (x ∷ xs) = refl
length-at_place change (suc place) (x ∷ xs) = ap suc (length-at_place change place xs)
