-- The place of a key among rows of the program and of the model.
use Rattle.std.proofs.Common.{◌≡◌, List, [], ◌∷◌, length, map, Bool, refl}
use Rattle.std.specs.Prelude.{position}
use Rattle.std.specs.List.{position_or_len}

first_seen : {A B : Type 0} (test : B → Bool) (view : A → B) (xs : List A) → position_or_len test (map view xs)
    ≡ position_or_len (λ x. test (view x)) xs
first_seen test view [] = refl
first_seen test view (x ∷ xs) = rw (first_seen test view xs) refl

as_many : {A B : Type 0} (view : A → B) (xs : List A) → length (map view xs) ≡ length xs
as_many view [] = refl
as_many view (x ∷ xs) = rw (as_many view xs) refl

pub place_seen : {A B : Type 0} (test : B → Bool) (view : A → B) (xs : List A) → position (λ x. test (view x)) xs
    ≡ position test (map view xs)
place_seen test view xs = rw (first_seen test view xs, as_many view xs) refl
