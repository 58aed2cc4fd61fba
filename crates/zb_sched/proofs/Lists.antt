-- Facts of all items and of all pairs of a list.
use Rattle.std.proofs.Common.{◌≡◌, ℕ, ◌==◌, ◌||◌, List, [], ◌∷◌, ◌++◌, Bool, true, false, map, refl, arith, sym, ◌∙◌, bytes_eq}
use Rattle.std.specs.List.{AllByRecursion, list_any}
use Rattle.std.proofs.lemmas.Bool.Decides.{nat_tests}
use Rattle.std.proofs.lemmas.Slice.Eq.{bytes_eq-Decides}
use Rattle.zb_sched.specs.Judge.{Seat}
use Rattle.zb_sched.specs.Schedules.{Node}
use Rattle.zb_sched.specs.Valid.{Pairwise}

pub all_append : {X : Type 0} (P : X → Type 0) (xs : List X) (y : X) → AllByRecursion P xs → P y
    → AllByRecursion P (xs ++ y ∷ [])
all_append P [] y all one = (one, tt)
all_append P (x ∷ xs) y all one = (all.0, all_append P xs y all.1 one)

pub pairwise_append : {X : Type 0} (R : X → X → Type 0) (xs : List X) (y : X) → Pairwise R xs
    → AllByRecursion (λ x. R x y) xs → Pairwise R (xs ++ y ∷ [])
pairwise_append R [] y pairs all = (tt, tt)
pairwise_append R (x ∷ xs) y pairs all = (all_append (R x) xs y pairs.0 all.0, pairwise_append R xs y pairs.1 all.1)

pub all_map : {X : Type 0} (P Q : X → Type 0) (xs : List X) → ((x : X) → P x → Q x) → AllByRecursion P xs
    → AllByRecursion Q xs
all_map P Q [] f all = tt
all_map P Q (x ∷ xs) f all = (f x all.0, all_map P Q xs f all.1)

pub all_of : {X : Type 0} (P : X → Type 0) (xs : List X) → ((x : X) → P x) → AllByRecursion P xs
all_of P [] f = tt
all_of P (x ∷ xs) f = (f x, all_of P xs f)

pub all_map2 : {X : Type 0} (P Q S : X → Type 0) (xs : List X) → ((x : X) → P x → Q x → S x) → AllByRecursion P xs
    → AllByRecursion Q xs → AllByRecursion S xs
all_map2 P Q S [] f p q = tt
all_map2 P Q S (x ∷ xs) f p q = (f x p.0 q.0, all_map2 P Q S xs f p.1 q.1)

pub neither : (a b : Bool) → (a || b) ≡ false → (a ≡ false) × (b ≡ false)
neither true b h = cc h
neither false b h = (refl, h)

pub any_false : {X : Type 0} (p : X → Bool) (xs : List X) → list_any p xs ≡ false
    → AllByRecursion (λ x. p x ≡ false) xs
any_false p [] h = tt
any_false p (x ∷ xs) h = let both = neither (p x) (list_any p xs) h in (both.0, any_false p xs both.1)

pub nodes_false : (p : Node → Bool) (seats : List Seat) → list_any (λ s. p s.node) seats ≡ false
    → AllByRecursion (λ m. p m ≡ false) (map (λ (s : Seat). s.node) seats)
nodes_false p [] h = tt
nodes_false p (s ∷ seats) h = let both = neither (p s.node) (list_any (λ x. p x.node) seats) h in
    (both.0, nodes_false p seats both.1)

pub unequal : (xs ys : List ℕ) → bytes_eq xs ys ≡ false → xs ≡ ys → ⊥
unequal xs ys no_match same = cc (sym ((bytes_eq-Decides xs ys).1 same) ∙ no_match)

pub unequal_number : (m n : ℕ) → (m == n) ≡ false → m ≡ n → ⊥
unequal_number m n no_match same = grind (arith, nat_tests, no_match, same)
