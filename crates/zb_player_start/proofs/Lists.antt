-- Facts of each item of a list, by its place.
use Rattle.std.proofs.Common.{◌≡◌, ℕ, zero, suc, Bool, true, false, cond, List, [], ◌∷◌, map, find, Some, ap, ◌∙◌, subst}
use Rattle.std.specs.Prelude.{slice_get}
use Rattle.std.specs.List.{AllByRecursion}
use Rattle.zb_sched.specs.Valid.{Pairwise}
use Rattle.zb_sched.proofs.Lists.{all_map2}

-- what holds of all items holds of each
pub all_at : {X : Type 0} (P : X → Type 0) (xs : List X) (i : ℕ) (x : X) → AllByRecursion P xs → slice_get xs i
    ≡ Some x → P x
all_at P [] i x all at = absurd (cc)
all_at P (y ∷ xs) zero x all at = let same : y ≡ x = cc in subst P same all.0
all_at P (y ∷ xs) (suc i) x all at = all_at P xs i x all.1 at

-- an item of a mapped list is that item mapped
pub map_at : {X Y : Type 0} (f : X → Y) (xs : List X) (i : ℕ) (x : X) → slice_get xs i ≡ Some x
    → slice_get (map f xs) i ≡ Some (f x)
map_at f [] i x at = absurd (cc)
map_at f (y ∷ xs) zero x at = let same : y ≡ x = cc in ap (λ z. Some (f z)) same
map_at f (y ∷ xs) (suc i) x at = map_at f xs i x at

pub mapped_pairs : {X Y : Type 0} (R : X → X → Type 0) (S : Y → Y → Type 0) (f : X → Y)
    → ((a b : X) → R a b → S (f a) (f b)) → (xs : List X) → Pairwise R xs → Pairwise S (map f xs)
mapped_pairs R S f each [] pairs = tt
mapped_pairs {X} {Y} R S f each (x ∷ xs) pairs = (others xs pairs.0, mapped_pairs R S f each xs pairs.1)
  where
    others : (ys : List X) → AllByRecursion (R x) ys → AllByRecursion (S (f x)) (map f ys)
    others [] all = tt
    others (y ∷ ys) all = (each x y all.0, others ys all.1)

-- of items that a test tells apart each is found by it
pub each_found : {X : Type 0} (R : X → X → Type 0) (test : X → X → Bool) → ((x y : X) → R x y → test x y ≡ false)
    → ((x : X) → test x x ≡ true)
    → (xs : List X) → Pairwise R xs → AllByRecursion (λ x. find (λ y. test y x) xs ≡ Some x) xs
each_found R test apart same [] pairs = tt
each_found R test apart same (x ∷ xs) pairs = (
  ap (λ b. cond b (Some x) (find (λ y. test y x) xs)) (same x),
  all_map2 (R x) (λ y. find (λ z. test z y) xs ≡ Some y) (λ y. find (λ z. test z y) (x ∷ xs) ≡ Some y) xs
      (λ y r f. ap (λ b. cond b (Some x) (find (λ z. test z y) xs)) (apart x y r) ∙ f) pairs.0
      (each_found R test apart same xs pairs.1),
)
