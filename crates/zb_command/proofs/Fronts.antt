-- Fronts of two texts, one after the other, and counts of faults of two calls.
use Rattle.std.proofs.Common.{◌≡◌, ℕ, zero, suc, ◌≤◌, [], ◌∷◌, ◌++◌, take, Option, Result, Ok, Err, OnOk, OnErr, is_err, if◌then◌else◌, refl, ap, sym, ◌∙◌, subst, arith}
use Rattle.std.specs.Io.KnownBytes.{Appends}
use Rattle.std.proofs.KnownBytes.{Appends-trans}
use Rattle.zb_base.specs.Outside.{AppendsFront, Rose, Unrisen, risen}
use Rattle.zb_model.specs.Data.{Bytes}

take_front : (xs ys : Bytes) (n : ℕ) → (m : ℕ) × (take m (xs ++ ys) ≡ take n xs)
take_front [] ys zero = (0, refl)
take_front [] ys (suc n) = (0, refl)
take_front (x ∷ xs) ys zero = (0, refl)
take_front (x ∷ xs) ys (suc n) = let r = take_front xs ys n in (suc r.0, ap (λ l. x ∷ l) r.1)

take_behind : (xs ys : Bytes) (n : ℕ) → (m : ℕ) × (take m (xs ++ ys) ≡ xs ++ take n ys)
take_behind [] ys n = (n, refl)
take_behind (x ∷ xs) ys n = let r = take_behind xs ys n in (suc r.0, ap (λ l. x ∷ l) r.1)

pub front_within : (a b : Option Bytes) (xs ys : Bytes) → AppendsFront a b xs → AppendsFront a b (xs ++ ys)
front_within a b xs ys f = let r = take_front xs ys f.0 in (r.0, subst (Appends a b) (sym r.1) f.1)

pub front_behind : (a b c : Option Bytes) (xs ys page : Bytes) → Appends a b xs → page ≡ ys → AppendsFront b c page
    → AppendsFront a c (xs ++ ys)
front_behind a b c xs ys page first is second =
    let P : Bytes → Type 0 = λ l. AppendsFront b c l in
    let f : AppendsFront b c ys = subst P is second in
    let r = take_behind xs ys f.0 in
    (r.0, subst (Appends a c) (sym r.1) (Appends-trans a b c xs (take f.0 ys) first f.1))

pub rose_later : (a b c : ℕ) → a ≤ b → Rose b c → Rose a c
rose_later a b c later rose = omega arith

-- a call after one that went through: its own fault alone is counted
pub flush_unrisen : {T E : Type 0} (r : Result T E) (old mid new : ℕ) → Unrisen old mid
    → new ≡ (if is_err r then risen mid 1 else mid) → OnOk r (Unrisen old new)
flush_unrisen (Ok x) old mid new same is = is ∙ same
flush_unrisen (Err e) old mid new same is = tt

pub flush_failed : {T E : Type 0} (r : Result T E) (old mid new : ℕ) → Unrisen old mid
    → new ≡ (if is_err r then risen mid 1 else mid) → OnErr r (Rose old new)
flush_failed (Ok x) old mid new same is = tt
flush_failed (Err e) old mid new same is = omega (arith, same, is)
