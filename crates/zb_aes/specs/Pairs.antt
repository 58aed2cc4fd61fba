-- A byte as a pair of elements of the field of 16 elements, as the code inverts it.
use Rattle.std.specs.Prelude.{ℕ, ◌/◌, ◌%◌, nat_le, if◌then◌else◌, bit_and, bit_xor, List, slice_index}
use Rattle.zb_aes.specs.declared.substitution.TheConstants.{HIGH_PAIRS, INVERSES, LOW_PAIRS, SCALED}

-- What a shuffle reads of a table at a place, which gives 0 from 128 on.
unfoldable pub found : List ℕ → ℕ → ℕ
found table place = if nat_le 128 place then 0 else slice_index table place

-- The byte of a pair, whose first element is in its high bits.
unfoldable pub byte_of : ℕ → ℕ
byte_of pair = bit_xor (found LOW_PAIRS (pair % 16)) (found HIGH_PAIRS (pair / 16 % 16))

abbrev pub sum_in : ℕ → ℕ
sum_in pair = bit_xor (pair / 16) (bit_and pair 15)

-- What is inverted for an element `place` of a pair: its inverse, and the second element's that is scaled.
abbrev pub inverted_at : ℕ → ℕ → ℕ
inverted_at place pair = bit_xor (found INVERSES place) (found SCALED (bit_and pair 15))

unfoldable pub first_inverse : ℕ → ℕ
first_inverse pair = bit_xor (found INVERSES (inverted_at (pair / 16) pair)) (sum_in pair)

unfoldable pub second_inverse : ℕ → ℕ
second_inverse pair = bit_xor (found INVERSES (inverted_at (sum_in pair) pair)) (pair / 16)
