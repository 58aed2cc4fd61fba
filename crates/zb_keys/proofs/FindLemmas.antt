-- Looking for a row in the program's list and in the model's.
use Rattle.std.proofs.Common.{◌≡◌, List, [], ◌∷◌, ◌++◌, map, refl, sym, ap, ◌∙◌, Bool, true, false, if◌then◌else◌, Some}
use Rattle.std.specs.Prelude.{find, option_map, reverse}
use mathlib.Core.List.{reverse-cons}
use Rattle.std.proofs.lemmas.List.{map_push}
use Rattle.zb_model.specs.State.{last_where}

pub find_map : {X Y : Type 0} (p : Y → Bool) (view : X → Y) (xs : List X) → find p (map view xs)
    ≡ option_map view (find (λ x. p (view x)) xs)
find_map p view [] = refl
find_map p view (x ∷ xs) = at_test (p (view x)) (find_map p view xs)
  where
    at_test : (b : Bool) → find p (map view xs) ≡ option_map view (find (λ y. p (view y)) xs)
        → (if b then Some (view x) else find p (map view xs))
        ≡ option_map view (if b then Some x else find (λ y. p (view y)) xs)
    at_test true e = refl
    at_test false e = e

reverse-map : {X Y : Type 0} (view : X → Y) (xs : List X) → reverse (map view xs) ≡ map view (reverse xs)
reverse-map view [] = refl
reverse-map view (x ∷ xs) =
    reverse-cons (view x) (map view xs) ∙ ap (λ l. l ++ view x ∷ []) (reverse-map view xs)
    ∙ sym (map_push view (reverse xs) x) ∙ sym (ap (map view) (reverse-cons x xs))

pub last_map : {X Y : Type 0} (p : Y → Bool) (view : X → Y) (xs : List X) → last_where p (map view xs)
    ≡ option_map view (last_where (λ x. p (view x)) xs)
last_map p view xs = ap (find p) (reverse-map view xs) ∙ find_map p view (reverse xs)
