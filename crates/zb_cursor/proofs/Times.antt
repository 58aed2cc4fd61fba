-- Fields read one after the other, as in a loop, and read back from their spelling.
use Rattle.std.proofs.Common.{◌≡◌, ℕ, suc, ◌-◌, ◌+◌, ◌≤◌, ◌<◌, List, [], ◌∷◌, ◌++◌, length, Result, Ok, Err, refl, sym, ap, ◌∙◌, append_assoc, arith}
use Rattle.std.specs.List.{flat_map, AllByRecursion}
use Rattle.std.proofs.lemmas.List.{append-nil}
use Rattle.std.proofs.lemmas.List.Concat.{flat_map-cons}
use Rattle.zb_cursor.specs.Reading.{Reading, follow, times_at}

-- what was read before, and what is still read
abbrev pub with_front : {E A : Type 0} → List A → Result (List A × List ℕ) E → Result (List A × List ℕ) E
with_front front read = follow read (λ xs rest. Ok (front ++ xs, rest))

regroup : {E A : Type 0} (front : List A) (x : A) (read : Result (List A × List ℕ) E)
    → with_front front (follow read (λ xs end. Ok (x ∷ xs, end))) ≡ with_front (front ++ x ∷ []) read
regroup {E} {A} front x (Ok y) = ap (λ (xs : List A). Ok (xs, y.1)) (simp append_assoc)
regroup front x (Err e) = refl

pub goes_on : {E A : Type 0} (cut : E) (read : Reading E A) (front : List A) (count i : ℕ) (bytes : List ℕ) (x : A)
    (after : List ℕ) (total : Result (List A × List ℕ) E) → i < count → read cut bytes ≡ Ok (x, after)
    → with_front front (times_at read (count - i) cut bytes) ≡ total
    → with_front (front ++ x ∷ []) (times_at read (count - (i + 1)) cut after) ≡ total
unfolding times_at
goes_on cut read front count i bytes x after total lt h so_far =
    let k : count - i ≡ suc (count - (i + 1)) = omega arith in
    let one : with_front front (times_at read (count - i) cut bytes)
    ≡ with_front (front ++ x ∷ []) (times_at read (count - (i + 1)) cut after) =
    rw (k, h) (regroup front x (times_at read (count - (i + 1)) cut after)) in
    sym one ∙ so_far

pub ends : {E A : Type 0} (cut e : E) (read : Reading E A) (front : List A) (count i : ℕ) (bytes : List ℕ)
    (total : Result (List A × List ℕ) E) → i < count → read cut bytes ≡ Err e
    → with_front front (times_at read (count - i) cut bytes) ≡ total → total ≡ Err e
unfolding times_at
ends cut e read front count i bytes total lt h so_far =
    let k : count - i ≡ suc (count - (i + 1)) = omega arith in
    let one : with_front front (times_at read (count - i) cut bytes) ≡ Err e = rw (k, h) refl in
    sym so_far ∙ one

pub is_done : {E A : Type 0} (cut : E) (read : Reading E A) (front : List A) (count i : ℕ) (bytes : List ℕ)
    (total : Result (List A × List ℕ) E) → count ≤ i
    → with_front front (times_at read (count - i) cut bytes) ≡ total → total ≡ Ok (front, bytes)
unfolding times_at
is_done {E} {A} cut read front count i bytes total le so_far =
    let k : count - i ≡ 0 = omega arith in
    let one : with_front front (times_at read (count - i) cut bytes) ≡ Ok (front, bytes) =
    rw k (ap (λ (xs : List A). Ok (xs, bytes)) (append-nil front)) in
    sym so_far ∙ one

pub times_again : {E A : Type 0} (cut : E) (spell : A → List ℕ) (read : Reading E A) (Fits : A → Type 0)
    → ((x : A) (rest : List ℕ) → Fits x → read cut (spell x ++ rest) ≡ Ok (x, rest))
    → (xs : List A) (rest : List ℕ) → AllByRecursion Fits xs
    → times_at read (length xs) cut (flat_map spell xs ++ rest) ≡ Ok (xs, rest)
unfolding times_at
times_again cut spell read Fits again [] rest fits = refl
times_again cut spell read Fits again (x ∷ xs) rest fits =
    let regrouped : flat_map spell (x ∷ xs) ++ rest ≡ spell x ++ (flat_map spell xs ++ rest) =
    ap (λ (b : List ℕ). b ++ rest) (flat_map-cons spell x xs) ∙ append_assoc (spell x) (flat_map spell xs) rest in
    ap (times_at read (suc (length xs)) cut) regrouped ∙ rw
    (again x (flat_map spell xs ++ rest) fits.0, times_again cut spell read Fits again xs rest fits.1) refl
