-- Marks in a table of bytes: what noting one more number does to them.
use Rattle.std.proofs.Common.{◌≡◌, ℕ, zero, suc, Bool, true, false, ◌||◌, if◌then◌else◌, List, [], ◌∷◌, length, get_or, set, nat_eq, refl, sym, ap, ◌∙◌, eq-eqb, ne_eqb, true≢false, append-nil, arith, ◌++◌, take, drop}
use Rattle.std.proofs.lemmas.List.{length-set, drop_all, take_all}
use Rattle.zb_record.specs.Marks.{is_mark_of, mark_after, mark_of, may_have, noted, place_of}

some : (m : ℕ) → nat_eq (suc m) 0 ≡ false
some m = ne_eqb (suc m) 0 (λ e. omega (arith, e))

marked : (m n : ℕ) → is_mark_of (mark_after m n) n ≡ true
unfolding is_mark_of mark_after mark_of
marked zero n = ap (λ (b : Bool). nat_eq (mark_of n) 1 || b) (eq-eqb (mark_of n) (mark_of n) refl) ∙ either
    (nat_eq (mark_of n) 1)
  where
    either : (b : Bool) → (b || true) ≡ true
    either true = refl
    either false = refl
marked (suc m) n = ap (λ (b : Bool). is_mark_of (if b then mark_of n else 1) n) (some m)

-- a byte that doesn't allow a number now didn't allow it before
mark_before : (m n o : ℕ) → is_mark_of (mark_after m n) o ≡ false → is_mark_of m o ≡ false
unfolding is_mark_of mark_after mark_of
mark_before zero n o free = ne_eqb 0 (mark_of o) (λ e. omega (arith, e))
mark_before (suc m) n o free =
    let all : is_mark_of (mark_after (suc m) n) o ≡ true =
    ap (λ (b : Bool). is_mark_of (if b then mark_of n else 1) o) (some m) in
    absurd (true≢false (sym all ∙ free))

there : (xs : List ℕ) (p m n : ℕ) → is_mark_of m n ≡ true → is_mark_of (get_or (set xs p m) p 1) n ≡ true
unfolding is_mark_of
there [] p m n is = refl
there (x ∷ xs) zero m n is = is
there (x ∷ xs) (suc p) m n is = there xs p m n is

before : (xs : List ℕ) (p q n o : ℕ) → is_mark_of (get_or (set xs p (mark_after (get_or xs p 1) n)) q 1) o ≡ false
    → is_mark_of (get_or xs q 1) o ≡ false
before [] p q n o free = free
before (x ∷ xs) zero zero n o free = mark_before x n o free
before (x ∷ xs) zero (suc q) n o free = free
before (x ∷ xs) (suc p) zero n o free = free
before (x ∷ xs) (suc p) (suc q) n o free = before xs p q n o free

-- the number of bytes doesn't change
size_stays : (marks : List ℕ) (n : ℕ) → length (noted marks n) ≡ length marks
unfolding noted
size_stays marks n = length-set marks (place_of (length marks) n)
    (mark_after (get_or marks (place_of (length marks) n) 1) n)

pub noted_there : (marks : List ℕ) (n : ℕ) → may_have (noted marks n) n ≡ true
unfolding may_have noted
noted_there marks n =
    let p = place_of (length marks) n in
    ap (λ (size : ℕ). is_mark_of (get_or (noted marks n) (place_of size n) 1) n) (size_stays marks n) ∙ there marks p
    (mark_after (get_or marks p 1) n) n (marked (get_or marks p 1) n)

pub free_before : (marks : List ℕ) (n o : ℕ) → may_have (noted marks n) o ≡ false → may_have marks o ≡ false
unfolding may_have noted
free_before marks n o free = before marks (place_of (length marks) n) (place_of (length marks) o) n o
    (sym (ap (λ (size : ℕ). is_mark_of (get_or (noted marks n) (place_of size o) 1) o) (size_stays marks n)) ∙ free)

-- a table whose bytes were borrowed is what was written
pub lent : (len : ℕ) (old items new : List ℕ) → length new ≡ length old → old ≡ items → length old ≡ len
    → take len (new ++ drop (length new) items) ≡ new
lent len old items new same is size =
    let none : drop (length new) items ≡ [] = drop_all (length new) items
    (omega (arith, same, ap (length {A = ℕ}) is)) in
    ap (λ (l : List ℕ). take len (new ++ l)) none ∙ ap (take len) (append-nil new) ∙ take_all len new
    (omega (arith, same, size))
