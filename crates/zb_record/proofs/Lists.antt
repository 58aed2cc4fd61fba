-- Tests of lists, in another form.
use Rattle.std.proofs.Common.{◌≡◌, List, [], ◌∷◌, length, map, refl, ap, Bool, true, false, if◌then◌else◌, ◌||◌}
use Rattle.std.specs.Prelude.{filter}
use Rattle.std.specs.List.{list_any}

pub any_map : {X Y : Type 0} (p : Y → Bool) (view : X → Y) (xs : List X) → list_any p (map view xs)
    ≡ list_any (λ x. p (view x)) xs
any_map p view [] = refl
any_map p view (x ∷ xs) = ap (λ b. p (view x) || b) (any_map p view xs)

pub count_map : {X Y : Type 0} (p : Y → Bool) (view : X → Y) (xs : List X) → length (filter p (map view xs))
    ≡ length (filter (λ x. p (view x)) xs)
count_map p view [] = refl
count_map p view (x ∷ xs) = at_test (p (view x)) (count_map p view xs)
  where
    at_test : (b : Bool) → length (filter p (map view xs)) ≡ length (filter (λ y. p (view y)) xs)
        → length (if b then view x ∷ filter p (map view xs) else filter p (map view xs))
        ≡ length (if b then x ∷ filter (λ y. p (view y)) xs else filter (λ y. p (view y)) xs)
    at_test true e = rw e refl
    at_test false e = e
