-- The register is what the division still has to add.
use Rattle.std.proofs.Common.{◌≡◌, ℕ, zero, suc, ◌+◌, ◌-◌, ◌*◌, ◌/◌, ◌%◌, ◌^◌, ◌==◌, ◌<◌, true, false, List, [], ◌∷◌, ◌++◌, ◌∙◌, if◌then◌else◌, refl, sym, ap, length, map, replicate, get_or, drop, bit_xor, arith, add-one, append_assoc, drop-cons, div-one, eq-eqb, ne_eqb, pow-suc}
use Rattle.std.proofs.lemmas.List.{drop_all}
use Rattle.std.proofs.lemmas.Nat.{shr-shr, xor_comm, xor_mod, xor_shr}
use Rattle.std.specs.Int.{bit_at}
use Rattle.std.specs.Int.Bits.{xor_assoc, xor_zero_l, xor_zero_r}
use Rattle.std.specs.List.{range_with_len}
use Rattle.zb_install.specs.Division.{added, bits_from, divided, divisor, message_bits, number_of, remainder}

added-nil : (xs : List ℕ) → added xs [] ≡ xs
unfolding added
added-nil [] = refl
added-nil (x ∷ xs) = refl

added-zero : (xs ys : List ℕ) → added xs (ys ++ 0 ∷ []) ≡ added xs ys
unfolding added
added-zero [] ys = refl
added-zero (x ∷ xs) [] = rw (xor_zero_r x, added-nil xs) refl
added-zero (x ∷ xs) (y ∷ ys) = ap (λ l. bit_xor x y ∷ l) (added-zero xs ys)

added_twice : (xs ys zs : List ℕ) → length ys ≡ length zs → added (added xs ys) zs ≡ added xs (added ys zs)
unfolding added
added_twice [] ys zs h = refl
added_twice (x ∷ xs) [] [] h = refl
added_twice (x ∷ xs) [] (z ∷ zs) h = absurd (omega arith)
added_twice (x ∷ xs) (y ∷ ys) [] h = absurd (omega arith)
added_twice (x ∷ xs) (y ∷ ys) (z ∷ zs) h = rw (xor_assoc x y z, added_twice xs ys zs (omega arith)) refl

zeros_added : (n : ℕ) (ys : List ℕ) → length ys ≡ n → added (replicate n 0) ys ≡ ys
unfolding added
zeros_added zero [] h = refl
zeros_added zero (y ∷ ys) h = absurd (omega arith)
zeros_added (suc n) [] h = absurd (omega arith)
zeros_added (suc n) (y ∷ ys) h = rw (xor_zero_l y, zeros_added n ys (omega arith)) refl

-- The bits of a sum of numbers are the sums of their bits.
pub bits-xor : (a b n k : ℕ) → map (bit_at (bit_xor a b)) (range_with_len k n)
    ≡ added (map (bit_at a) (range_with_len k n)) (map (bit_at b) (range_with_len k n))
unfolding added
bits-xor a b zero k = refl
bits-xor a b (suc n) k =
    rw (xor_shr a b k, xor_mod (a / 2 ^ k) (b / 2 ^ k) 1, bits-xor a b n (k + 1)) refl

-- The bits from the second on are those of half the number.
pub bits-half : (a n k : ℕ) → map (bit_at a) (range_with_len (k + 1) n) ≡ map (bit_at (a / 2)) (range_with_len k n)
bits-half a zero k = refl
bits-half a (suc n) k =
    let place : 1 + k ≡ k + 1 = omega arith in
    let here : bit_at a (k + 1) ≡ bit_at (a / 2) k =
    ap (λ j. a / 2 ^ j % 2) (sym place) ∙ ap (λ m. m % 2) (sym (shr-shr a 1 k)) in
    rw (here, bits-half a n (k + 1)) refl

half_added : (register : ℕ) (xs : List ℕ) → register < 2 ^ 16
    → added xs (map (bit_at register) (range_with_len 1 15)) ≡ added xs (bits_from 16 (register / 2))
half_added register xs h =
    let top : bit_at (register / 2) 15 ≡ 0 = omega arith in
    ap (added xs) (bits-half register 15 0)
    ∙ sym (added-zero xs (map (bit_at (register / 2)) (range_with_len 0 15)))
    ∙ ap (λ b. added xs (map (bit_at (register / 2)) (range_with_len 0 15) ++ b ∷ [])) (sym top)

-- One step of the division, with a register added to what is left.
step : (n register bit : ℕ) (rest : List ℕ) → register < 2 ^ 16
    → divided (n + 1) (added (bit ∷ rest) (bits_from 16 register))
    ≡ divided n (if bit_xor bit (register % 2) == 1 then added (added rest (bits_from 16 (register / 2))) divisor
    else added rest (bits_from 16 (register / 2)))
unfolding added divided
step n register bit rest h = rw (add-one, div-one) (rw (half_added register rest h) refl)

head : (register bit : ℕ) → bit < 2 → bit_xor register bit % 2 ≡ bit_xor bit (register % 2)
head register bit h =
    let same : bit % 2 ≡ bit = omega arith in
    xor_mod register bit 1 ∙ ap (bit_xor (register % 2)) same ∙ xor_comm (register % 2) bit

pub odd_step : (register bit n : ℕ) (rest : List ℕ) → register < 2 ^ 16 → bit < 2 → bit_xor register bit % 2 ≡ 1
    → divided (n + 1) (added (bit ∷ rest) (bits_from 16 register))
    ≡ divided n (added rest (bits_from 16 (bit_xor (register / 2) 0x8408)))
odd_step register bit n rest h g e =
    let test : (bit_xor bit (register % 2) == 1) ≡ true = eq-eqb _ _ (sym (head register bit g) ∙ e) in
    step n register bit rest h
    ∙ ap (λ b. divided n (if b then added (added rest (bits_from 16 (register / 2))) divisor
    else added rest (bits_from 16 (register / 2)))) test
    ∙ ap (divided n) (added_twice rest (bits_from 16 (register / 2)) divisor refl
    ∙ ap (added rest) (sym (bits-xor (register / 2) 0x8408 16 0)))

pub even_step : (register bit n : ℕ) (rest : List ℕ) → register < 2 ^ 16 → bit < 2 → (bit_xor register bit % 2 ≡ 1 → ⊥)
    → divided (n + 1) (added (bit ∷ rest) (bits_from 16 register))
    ≡ divided n (added rest (bits_from 16 (register / 2)))
even_step register bit n rest h g ne =
    let test : (bit_xor bit (register % 2) == 1) ≡ false = ne_eqb _ _ (λ e. ne (head register bit g ∙ e)) in
    step n register bit rest h
    ∙ ap (λ b. divided n (if b then added (added rest (bits_from 16 (register / 2))) divisor
    else added rest (bits_from 16 (register / 2)))) test

-- The whole message, byte after byte: what is left to divide after some of its bytes.
abbrev pub left : List ℕ → ℕ → ℕ → List ℕ
left bytes i register =
    divided (8 * (length bytes - i)) (added (message_bits (drop i bytes) ++ replicate 16 0) (bits_from 16 register))

pub message_init : (bytes : List ℕ) (start : ℕ) → remainder start bytes ≡ left bytes 0 start
unfolding remainder
message_init bytes start =
    let e : length bytes ≡ length bytes - 0 = omega arith in
    ap (λ n. divided (8 * n) (added (message_bits bytes ++ replicate 16 0) (bits_from 16 start))) e

pub message_more : (whole bytes : List ℕ) (register next i : ℕ) → i < length bytes → whole ≡ left bytes i register
    → ((n : ℕ) (rest : List ℕ)
    → divided (n + 8) (added (bits_from 8 (get_or bytes i 0) ++ rest) (bits_from 16 register))
    ≡ divided n (added rest (bits_from 16 next)))
    → whole ≡ left bytes (i + 1) next
unfolding message_bits
message_more whole bytes register next i h p q =
    let more : 8 * (length bytes - i) ≡ 8 * (length bytes - (i + 1)) + 8 = omega arith in
    let rest : List ℕ = message_bits (drop (i + 1) bytes) in
    let parts : message_bits (drop i bytes) ≡ bits_from 8 (get_or bytes i 0) ++ rest =
    rw add-one (ap message_bits (drop-cons bytes i 0 h)) in
    p ∙ ap (λ m. divided m (added (message_bits (drop i bytes) ++ replicate 16 0) (bits_from 16 register))) more
    ∙ ap (λ l. divided (8 * (length bytes - (i + 1)) + 8) (added (l ++ replicate 16 0) (bits_from 16 register))) parts
    ∙ ap (λ l. divided (8 * (length bytes - (i + 1)) + 8) (added l (bits_from 16 register)))
    (append_assoc (bits_from 8 (get_or bytes i 0)) rest (replicate 16 0))
    ∙ q (8 * (length bytes - (i + 1))) (rest ++ replicate 16 0)

pub message_end : (whole bytes : List ℕ) (register i : ℕ) → i ≡ length bytes → whole ≡ left bytes i register
    → bits_from 16 register ≡ whole
unfolding message_bits divided
message_end whole bytes register i e p =
    let none : 8 * (length bytes - i) ≡ 0 = omega arith in
    let gone : drop i bytes ≡ [] = drop_all i bytes (omega arith) in
    let last : left bytes i register ≡ bits_from 16 register =
    ap (λ n. divided n (added (message_bits (drop i bytes) ++ replicate 16 0) (bits_from 16 register))) none
    ∙ ap (λ l. added (message_bits l ++ replicate 16 0) (bits_from 16 register)) gone
    ∙ zeros_added 16 (bits_from 16 register) refl in
    sym (p ∙ last)

-- A number is the one with its bits.
pub number_of-bits : (n x : ℕ) → x < 2 ^ n → number_of (bits_from n x) ≡ x
number_of-bits zero x h = omega arith
number_of-bits (suc n) x h =
    let double : 2 ^ suc n ≡ 2 ^ n * 2 = pow-suc 2 n in
    let rest : number_of (map (bit_at x) (range_with_len 1 n)) ≡ x / 2 =
    ap number_of (bits-half x n 0) ∙ number_of-bits n (x / 2) (omega arith) in
    rw (div-one, rest) (omega arith)
