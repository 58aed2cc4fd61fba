-- Questions of mapped lists.
use Rattle.std.proofs.Common.{◌≡◌, List, [], ◌∷◌, map, refl, ap, Bool}
use Rattle.std.specs.Prelude.{◌||◌}
use Rattle.std.specs.List.{list_any}

pub list_any-map : {X Y : Type 0} (p : Y → Bool) (view : X → Y) (xs : List X) → list_any p (map view xs)
    ≡ list_any (λ x. p (view x)) xs
list_any-map p view [] = refl
list_any-map p view (x ∷ xs) = ap (λ b. p (view x) || b) (list_any-map p view xs)

-- the same, by a name that an attribute can have
pub any_map : {X Y : Type 0} (p : Y → Bool) (view : X → Y) (xs : List X) → list_any p (map view xs)
    ≡ list_any (λ x. p (view x)) xs
any_map p view xs = list_any-map p view xs
