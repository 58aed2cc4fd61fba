-- The division of polynomials over the bits 0 and 1 by x^16 + x^12 + x^5 + 1. The CRC of install codes uses it (Base
-- Device Behavior, install codes), and so does the check sequence of packets (IEEE 802.15.4, 5.2.1.9 of the edition of
-- 2011). A polynomial is the list of its bits, the highest power first.
use Rattle.std.specs.Prelude.{ℕ, zero, suc, ◌+◌, ◌*◌, ◌==◌, List, [], ◌∷◌, ◌++◌, bit_xor, if◌then◌else◌, length, map, replicate}
use Rattle.std.specs.Int.{bit_at}
use Rattle.std.specs.List.{flat_map, range_with_len}

-- The bits of a number, the lowest first: reflected, the first bit is that of the highest power.
abbrev pub bits_from : ℕ → ℕ → List ℕ
bits_from n number = map (bit_at number) (range_with_len 0 n)

-- The message as a polynomial.
unfoldable pub message_bits : List ℕ → List ℕ
message_bits bytes = flat_map (bits_from 8) bytes

-- The second polynomial added to the highest powers of the first.
unfoldable pub added : List ℕ → List ℕ → List ℕ
added [] ys = []
added (x ∷ xs) [] = x ∷ xs
added (x ∷ xs) (y ∷ ys) = bit_xor x y ∷ added xs ys

-- The divisor without its highest power: x^12, x^5 and 1.
abbrev pub divisor : List ℕ
divisor = 0 ∷ 0 ∷ 0 ∷ 1 ∷ 0 ∷ 0 ∷ 0 ∷ 0 ∷ 0 ∷ 0 ∷ 1 ∷ 0 ∷ 0 ∷ 0 ∷ 0 ∷ 1 ∷ []

-- The long division, `n` steps of it: if the highest power has the bit 1, the divisor is added to what is left.
unfoldable pub divided : ℕ → List ℕ → List ℕ
divided zero bits = bits
divided (suc n) [] = []
divided (suc n) (b ∷ bits) = divided n (if b == 1 then added bits divisor else bits)

-- The number with these bits, the lowest first.
abbrev pub number_of : List ℕ → ℕ
number_of [] = 0
number_of (b ∷ bits) = b + 2 * number_of bits

-- The remainder of the message times x^16, with the bits of `start` added to its highest powers.
unfoldable pub remainder : ℕ → List ℕ → List ℕ
remainder start bytes = divided (8 * length bytes) (added (message_bits bytes ++ replicate 16 0) (bits_from 16 start))
