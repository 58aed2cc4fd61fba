-- The cipher of FIPS 197, section 5, with a key of 128 bits. The state is the list of its 16 bytes, column after
-- column, as they are put in and taken out (3.4).
use Rattle.std.specs.Prelude.{ℕ, zero, suc, List, [], ◌∷◌, ◌++◌, ◌+◌, ◌*◌, ◌%◌, bit_xor, map, take, drop, slice_index}
use Rattle.std.specs.List.{range_with_len}
use Rattle.zb_aes.specs.Bytes.{xored}
use Rattle.zb_aes.specs.Field.{times, xtime, substitute}

-- 5.1.2: row `r` of the state moves `r` places to the left.
abbrev pub shift_rows : List ℕ → List ℕ
shift_rows state = map (λ i. slice_index state ((i + 4 * (i % 4)) % 16)) (range_with_len 0 16)

abbrev pub sum_of_four : ℕ → ℕ → ℕ → ℕ → ℕ
sum_of_four a b c d = bit_xor (bit_xor a b) (bit_xor c d)

-- 5.1.3: a column of four bytes, multiplied by the fixed matrix.
unfoldable pub mix_column : ℕ → ℕ → ℕ → ℕ → List ℕ
mix_column a b c d =
    sum_of_four (times 2 a) (times 3 b) c d
    ∷ sum_of_four a (times 2 b) (times 3 c) d
    ∷ sum_of_four a b (times 2 c) (times 3 d)
    ∷ sum_of_four (times 3 a) b c (times 2 d)
    ∷ []

-- 5.1.3: each column of the state.
abbrev pub mix_columns : List ℕ → List ℕ
mix_columns (a ∷ b ∷ c ∷ d ∷ columns) = mix_column a b c d ++ mix_columns columns
mix_columns state = []

-- 5.1: a round before the last, with the round key that it adds.
unfoldable pub round : List ℕ → List ℕ → List ℕ
round key state = xored (mix_columns (shift_rows (map substitute state))) key

-- 5.1: the last round, which mixes no columns.
unfoldable pub last_round : List ℕ → List ℕ → List ℕ
last_round key state = xored (shift_rows (map substitute state)) key

-- 5.2: the constant of a round from 1 on, {02} to the power of the round less one.
abbrev pub round_constant : ℕ → ℕ
round_constant zero = 0
round_constant (suc zero) = 1
round_constant (suc n) = xtime (round_constant n)

-- 5.2: RotWord and SubWord of a word of the key, with the constant of the round.
abbrev pub turned : ℕ → List ℕ → List ℕ
turned constant word =
    xored (map substitute (drop 1 word ++ take 1 word)) (constant ∷ 0 ∷ 0 ∷ 0 ∷ [])

-- Word `i` of a round key.
abbrev pub word_of : List ℕ → ℕ → List ℕ
word_of key i = take 4 (drop (4 * i) key)

-- 5.2: the round key after `key`, with the constant of its round. Each word is the sum of the word before it,
-- in the first place turned, and the word four places before it.
unfoldable pub next_key : ℕ → List ℕ → List ℕ
next_key constant key =
    let first = xored (word_of key 0) (turned constant (word_of key 3)) in
    let second = xored (word_of key 1) first in
    let third = xored (word_of key 2) second in
    let fourth = xored (word_of key 3) third in
    first ++ second ++ third ++ fourth

-- 5.2: the round key of a round from 0 on.
unfoldable pub round_key : List ℕ → ℕ → List ℕ
round_key key zero = key
round_key key (suc n) = next_key (round_constant (suc n)) (round_key key n)

-- 5.1: the state after the round `n`, which is below 10.
unfoldable pub state_after : List ℕ → List ℕ → ℕ → List ℕ
state_after key block zero = xored block key
state_after key block (suc n) = round (round_key key (suc n)) (state_after key block n)

-- 5.1: the cipher.
unfoldable pub enciphered : List ℕ → List ℕ → List ℕ
enciphered key block = last_round (round_key key 10) (state_after key block 9)
