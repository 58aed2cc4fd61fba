-- A list of bytes cut at the first of some byte.
use Rattle.std.proofs.Common.{◌≡◌, ℕ, ◌+◌, ◌-◌, ◌<◌, ◌≤◌, ◌==◌, List, [], ◌∷◌, length, drop, take, Bool, true, false, cond, Some, None, refl, arith, length-drop, ap, sym, ◌∙◌, nat_lt}
use Rattle.std.specs.Prelude.{position}
use Rattle.std.specs.List.{slice_split, position_or_len, onto_first}
use Rattle.std.proofs.lemmas.List.Splits.{slice_split_none, slice_split_first}
use Rattle.std.proofs.lemmas.List.Sums.{fails_before_first}
use Rattle.std.proofs.lemmas.Option.{cond_some}
use Rattle.std.proofs.lemmas.Bool.Decides.{nat_tests}
use Rattle.std.proofs.lemmas.List.{take_all, drop-drop}
use Rattle.zb_text.specs.Words.{parts, nothing}

none_test : (b : Bool) (x : ℕ) → cond b (Some x) None ≡ None → b ≡ false
none_test true x h = cc h
none_test false x h = refl

-- no such byte: one part
pub cut_none : (c : ℕ) (xs : List ℕ) → position (λ b. b == c) xs ≡ None → parts c xs ≡ xs ∷ []
cut_none c xs none =
    let all_before : nat_lt (position_or_len (λ b. b == c) xs) (length xs) ≡ false = none_test _ _ none in
    let whole : length xs ≤ position_or_len (λ b. b == c) xs = grind (arith, nat_tests) in
    slice_split_none (λ b. b == c) xs (λ k d lt. fails_before_first (λ b. b == c) xs k d (omega arith))

-- the part before the first such byte, and the parts of what is after it
pub cut_some : (c at : ℕ) (xs : List ℕ) → position (λ b. b == c) xs ≡ Some at
    → parts c xs ≡ take at xs ∷ parts c (take (length (drop at xs) - 1) (drop 1 (drop at xs)))
cut_some c at xs found =
    let here = cond_some (nat_lt (position_or_len (λ b. b == c) xs) (length xs)) (position_or_len (λ b. b == c) xs) at
    found in
    let within : position_or_len (λ b. b == c) xs < length xs = grind (arith, nat_tests, here.0) in
    let behind : drop (at + 1) xs ≡ take (length (drop at xs) - 1) (drop 1 (drop at xs)) =
    sym (take_all (length (drop at xs) - 1) (drop 1 (drop at xs)) (omega (arith, length-drop 1 (drop at xs))) ∙
    drop-drop 1 at xs) in
    slice_split_first (λ b. b == c) xs 0 within
    ∙ ap (λ (i : ℕ). take i xs ∷ slice_split (λ b. b == c) (drop (i + 1) xs)) here.1
    ∙ ap (λ (rest : List ℕ). take at xs ∷ slice_split (λ b. b == c) rest) behind

onto_is_some : (x : ℕ) (ps : List (List ℕ)) → nothing (onto_first x ps) ≡ None
onto_is_some x [] = refl
onto_is_some x (part ∷ ps) = refl

cut_is_some : (b : Bool) (x : ℕ) (ps : List (List ℕ)) → nothing (cond b ([] ∷ ps) (onto_first x ps)) ≡ None
cut_is_some true x ps = refl
cut_is_some false x ps = onto_is_some x ps

-- there is always a part
pub parts_are_some : (c : ℕ) (xs : List ℕ) → nothing (parts c xs) ≡ None
parts_are_some c [] = refl
parts_are_some c (x ∷ xs) = cut_is_some (x == c) x (parts c xs)
