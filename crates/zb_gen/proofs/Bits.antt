-- The CRC of a code is a number of 16 bits.
use Rattle.std.proofs.Common.{◌≡◌, ℕ, zero, suc, ◌+◌, ◌*◌, ◌^◌, ◌<◌, ◌==◌, Bool, true, false, List, [], ◌∷◌, ◌++◌, if◌then◌else◌, refl, ap, arith, length, map, replicate, pow-suc, length-append}
use Rattle.std.specs.Int.{bit_at}
use Rattle.std.specs.List.{AllByRecursion, range_with_len}
use Rattle.std.proofs.lemmas.Nat.{xor_lt}
use Rattle.std.proofs.lemmas.Nat.Bits.{bit_at-lt}
use Rattle.zb_install.specs.Division.{added, bits_from, divided, divisor, message_bits, number_of, remainder}
use Rattle.zb_install.specs.Crc.{crc}

abbrev AreBits : List ℕ → Type 0
AreBits bits = AllByRecursion (λ (b : ℕ). b < 2 ^ 1) bits

both_bits : (xs ys : List ℕ) → AreBits xs → AreBits ys → AreBits (xs ++ ys)
both_bits [] ys p q = q
both_bits (x ∷ xs) ys p q = (p.0, both_bits xs ys p.1 q)

map_bits : (f : ℕ → ℕ) → ((i : ℕ) → f i < 2 ^ 1) → (xs : List ℕ) → AreBits (map f xs)
map_bits f each [] = tt
map_bits f each (x ∷ xs) = (each x, map_bits f each xs)

number_bits : (n number : ℕ) → AreBits (bits_from n number)
number_bits n number = map_bits (bit_at number) (λ i. bit_at-lt number i) (range_with_len 0 n)

added_bits : (xs ys : List ℕ) → AreBits xs → AreBits ys → AreBits (added xs ys)
unfolding added
added_bits [] ys p q = tt
added_bits (x ∷ xs) [] p q = p
added_bits (x ∷ xs) (y ∷ ys) p q = (xor_lt 1 x y p.0 q.0, added_bits xs ys p.1 q.1)

length-added : (xs ys : List ℕ) → length (added xs ys) ≡ length xs
unfolding added
length-added [] ys = refl
length-added (x ∷ xs) [] = refl
length-added (x ∷ xs) (y ∷ ys) = ap suc (length-added xs ys)

divisor_bits : AreBits divisor
divisor_bits = (
  omega arith,
  (
    omega arith,
    (
      omega arith,
      (
        omega arith,
        (
          omega arith,
          (
            omega arith,
            (
              omega arith,
              (
                omega arith,
                (
                  omega arith,
                  (
                    omega arith,
                    (omega arith, (omega arith, (omega arith, (omega arith, (omega arith, (omega arith, tt)))))),
                  ),
                ),
              ),
            ),
          ),
        ),
      ),
    ),
  ),
)

either_bits : (b : Bool) (xs ys : List ℕ) → AreBits xs → AreBits ys → AreBits (if b then xs else ys)
either_bits true xs ys p q = p
either_bits false xs ys p q = q

either_length : (b : Bool) (xs ys : List ℕ) → length xs ≡ length ys → length (if b then xs else ys) ≡ length ys
either_length true xs ys e = e
either_length false xs ys e = refl

divided_bits : (n : ℕ) (bits : List ℕ) → AreBits bits → AreBits (divided n bits)
unfolding divided
divided_bits zero bits p = p
divided_bits (suc n) [] p = tt
divided_bits (suc n) (b ∷ bits) p =
    divided_bits n (if b == 1 then added bits divisor else bits)
    (either_bits (b == 1) (added bits divisor) bits (added_bits bits divisor p.1 divisor_bits) p.1)

length-divided : (n m : ℕ) (bits : List ℕ) → length bits ≡ n + m → length (divided n bits) ≡ m
unfolding divided
length-divided zero m bits e = omega (arith, e)
length-divided (suc n) m [] e = omega (arith, e)
length-divided (suc n) m (b ∷ bits) e =
    length-divided n m (if b == 1 then added bits divisor else bits)
    (omega (arith, e, either_length (b == 1) (added bits divisor) bits (length-added bits divisor)))

all_message_bits : (bytes : List ℕ) → AreBits (message_bits bytes)
unfolding message_bits
all_message_bits [] = tt
all_message_bits (b ∷ bytes) = both_bits (bits_from 8 b) (message_bits bytes) (number_bits 8 b)
    (all_message_bits bytes)

length-message_bits : (bytes : List ℕ) → length (message_bits bytes) ≡ 8 * length bytes
unfolding message_bits
length-message_bits [] = omega arith
length-message_bits (b ∷ bytes) =
    omega (arith, length-append (bits_from 8 b) (message_bits bytes), length-message_bits bytes)

zeros : AreBits (replicate 16 0)
zeros = (
  omega arith,
  (
    omega arith,
    (
      omega arith,
      (
        omega arith,
        (
          omega arith,
          (
            omega arith,
            (
              omega arith,
              (
                omega arith,
                (
                  omega arith,
                  (
                    omega arith,
                    (omega arith, (omega arith, (omega arith, (omega arith, (omega arith, (omega arith, tt)))))),
                  ),
                ),
              ),
            ),
          ),
        ),
      ),
    ),
  ),
)

ones : AreBits (replicate 16 1)
ones = (
  omega arith,
  (
    omega arith,
    (
      omega arith,
      (
        omega arith,
        (
          omega arith,
          (
            omega arith,
            (
              omega arith,
              (
                omega arith,
                (
                  omega arith,
                  (
                    omega arith,
                    (omega arith, (omega arith, (omega arith, (omega arith, (omega arith, (omega arith, tt)))))),
                  ),
                ),
              ),
            ),
          ),
        ),
      ),
    ),
  ),
)

number_small : (bits : List ℕ) → AreBits bits → number_of bits < 2 ^ length bits
number_small [] p = omega arith
number_small (b ∷ bits) p = omega (arith, p.0, number_small bits p.1, pow-suc 2 (length bits))

remainder_bits : (start : ℕ) (bytes : List ℕ) → AreBits (remainder start bytes)
unfolding remainder
remainder_bits start bytes =
    divided_bits (8 * length bytes) (added (message_bits bytes ++ replicate 16 0) (bits_from 16 start))
    (added_bits (message_bits bytes ++ replicate 16 0) (bits_from 16 start)
    (both_bits (message_bits bytes) (replicate 16 0) (all_message_bits bytes) zeros) (number_bits 16 start))

length-remainder : (start : ℕ) (bytes : List ℕ) → length (remainder start bytes) ≡ 16
unfolding remainder
length-remainder start bytes =
    length-divided (8 * length bytes) 16 (added (message_bits bytes ++ replicate 16 0) (bits_from 16 start))
    (omega (
      arith,
      length-added (message_bits bytes ++ replicate 16 0) (bits_from 16 start),
      length-append (message_bits bytes) (replicate 16 0),
      length-message_bits bytes,
    ))

pub crc_fits : (bytes : List ℕ) → crc bytes < 2 ^ 16
unfolding crc
crc_fits bytes =
    let long : length (added (remainder 0xffff bytes) (replicate 16 1))
    ≡ 16 = omega (arith, length-added (remainder 0xffff bytes) (replicate 16 1), length-remainder 0xffff bytes) in
    let small : number_of (added (remainder 0xffff bytes) (replicate 16 1))
    < 2 ^ length (added (remainder 0xffff bytes) (replicate 16 1)) =
    number_small (added (remainder 0xffff bytes) (replicate 16 1))
    (added_bits (remainder 0xffff bytes) (replicate 16 1) (remainder_bits 0xffff bytes) ones) in
    rw long at small
