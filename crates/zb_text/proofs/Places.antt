-- The first place of a byte, and the search for it.
use Rattle.std.proofs.Common.{◌≡◌, ℕ, ◌<◌, ◌==◌, List, ◌+◌, ◌≤◌, length, get_or, not, zero-add, Bool, true, false, cond, Option, Some, None, refl, arith, ap, sym, ◌∙◌, nat_lt}
use Rattle.std.specs.Prelude.{position}
use Rattle.std.specs.List.{prefix_len}
use Rattle.std.specs.Simd.Lanes.{chunk}
use Rattle.std.proofs.lemmas.Simd.{run_in_chunk_fails, run_in_chunk_stops}
use Rattle.std.proofs.lemmas.Bool.Decides.{nat_tests}
use Rattle.std.proofs.lemmas.List.Sums.{position_or_len_is}
use Rattle.memchr.specs.Find.{IsFirstByte, is_byte}

not_true : (b : Bool) → (b ≡ true → ⊥) → b ≡ false
not_true true h = absurd (h refl)
not_true false h = refl

is_less : (a b : ℕ) → a < b → nat_lt a b ≡ true
is_less a b h = grind (arith, nat_tests)

not_less : (a : ℕ) → nat_lt a a ≡ false
not_less a = grind (arith, nat_tests)

abbrev place_of : ℕ → ℕ → Option ℕ
place_of n at = cond (nat_lt at n) (Some at) None

pub first_place : (c : ℕ) (xs : List ℕ) (r : Option ℕ) → IsFirstByte (is_byte c) xs r → r ≡ position (λ b. b == c) xs
first_place c xs None h =
    let n = length xs in
    let behind = position_or_len_is (λ b. b == c) xs n 0 (omega arith)
    (λ k within. not_true _ (h k (omega arith) within)) (λ within. absurd (omega (arith, within))) in
    sym (ap (place_of n) behind ∙ ap (λ (b : Bool). cond b (Some n) None) (not_less n))
first_place c xs (Some k) h =
    let n = length xs in
    let here = position_or_len_is (λ b. b == c) xs k 0 (omega (arith, h.0.high))
    (λ j before. not_true _ (h.0.before j (omega arith) before)) (λ within. h.1) in
    sym (ap (place_of n) here ∙ ap (λ (b : Bool). cond b (Some k) None) (is_less k n h.0.high))

-- a place found among the first 16 is the first of all
pub near_place : (c : ℕ) (xs : List ℕ) (k : ℕ) → 0 + 16 ≤ length xs
    → k ≡ prefix_len (λ b. not (b == c)) (chunk 0 16 xs) → k < 16 → Some k ≡ position (λ b. b == c) xs
near_place c xs k room counted few =
    let n = length xs in
    let within : k < n = omega (arith, room, few) in
    let here = position_or_len_is (λ b. b == c) xs k 0 (omega (arith, within))
    (λ j before. run_in_chunk_fails (λ b. b == c) xs 0 16 k 0 room counted j (omega arith) (omega (arith, before)))
    (λ inside. sym (ap (λ (m : ℕ). get_or xs m 0 == c) (zero-add k))
    ∙ run_in_chunk_stops (λ b. b == c) xs 0 16 k 0 room counted few) in
    sym (ap (place_of n) here ∙ ap (λ (b : Bool). cond b (Some k) None) (is_less k n within))
