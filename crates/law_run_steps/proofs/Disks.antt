-- What is armed on the disk of a node, after something was armed on one.
use Rattle.std.proofs.Common.{◌≡◌, ℕ, Bool, true, false, cond, not, List, [], ◌∷◌, filter, find, Some, nat_eq, refl, sym, ap, ◌∙◌, subst, eqb-true, eq-eqb}
use Rattle.std.proofs.lemmas.Bool.{false≢true}
use Rattle.zb_model.specs.Play.{Disk, DiskState, state_or, disk_of, with_disk}

pub nat_eq-refl : (n : ℕ) → nat_eq n n ≡ true
nat_eq-refl n = eq-eqb n n refl

pub cond-same : {X : Type 0} (b : Bool) (x : X) → cond b x x ≡ x
cond-same true x = refl
cond-same false x = refl

-- what a test finds in a list is still found if only others were left out
find-filtered : {X : Type 0} (p q : X → Bool) → ((x : X) → p x ≡ true → q x ≡ true) → (xs : List X)
    → find p (filter q xs) ≡ find p xs
find-filtered p q k [] = refl
find-filtered p q k (x ∷ xs) = by-tests p q x xs (p x) (q x) refl (k x) (find-filtered p q k xs)
  where
    by-tests : {X : Type 0} (p q : X → Bool) (x : X) (xs : List X) (b c : Bool) → p x ≡ b → (p x ≡ true → c ≡ true)
        → find p (filter q xs) ≡ find p xs → find p (cond c (x ∷ filter q xs) (filter q xs))
        ≡ cond b (Some x) (find p xs)
    by-tests p q x xs true true e k i = ap (λ t. cond t (Some x) (find p (filter q xs))) e
    by-tests p q x xs true false e k i = absurd (false≢true (k e))
    by-tests p q x xs false true e k i = ap (λ t. cond t (Some x) (find p (filter q xs))) e ∙ i
    by-tests p q x xs false false e k i = i

pub own-disk : (ds : List Disk) (n : ℕ) (d : DiskState) → disk_of (with_disk ds n d) n ≡ d
unfolding disk_of with_disk
own-disk ds n d =
    ap (λ b. state_or
    (cond b (Some (record { owner = n; state = d }))
    (find (λ (x : Disk). nat_eq x.owner n) (filter (λ (x : Disk). not (nat_eq x.owner n)) ds)))) (nat_eq-refl n)

pub other-disk : (ds : List Disk) (n m : ℕ) (d : DiskState) → nat_eq n m ≡ false → disk_of (with_disk ds n d) m
    ≡ disk_of ds m
unfolding disk_of with_disk
other-disk ds n m d e =
    ap (λ b. state_or
    (cond b (Some (record { owner = n; state = d }))
    (find (λ (x : Disk). nat_eq x.owner m) (filter (λ (x : Disk). not (nat_eq x.owner n)) ds)))) e
    ∙ ap state_or
    (find-filtered (λ (x : Disk). nat_eq x.owner m) (λ (x : Disk). not (nat_eq x.owner n))
    (λ x is. by-owner x.owner (nat_eq x.owner n) refl is) ds)
  where
    by-owner : (k : ℕ) (b : Bool) → nat_eq k n ≡ b → nat_eq k m ≡ true → not b ≡ true
    by-owner k false p q = refl
    by-owner k true p q = absurd (false≢true (sym e ∙ subst (λ j. nat_eq j m ≡ true) (eqb-true k n p) q))
