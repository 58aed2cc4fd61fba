-- Decimal numbers.
use Rattle.std.specs.Prelude.{ℕ, ◌+◌, ◌*◌, ◌-◌, ◌==◌, ◌&&◌, ◌||◌, nat_lt, nat_le, List, [], ◌∷◌, length, slice_index, Bool, if◌then◌else◌, Option, Some, None}
use Rattle.std.specs.Char.{is_ascii_digit}

-- The number whose digits are those of `number` and then `digits`.
abbrev pub digits_after : ℕ → List ℕ → Option ℕ
digits_after number [] = Some number
digits_after number (digit ∷ more) = if is_ascii_digit digit then digits_after (number * 10 + (digit - 48)) more
    else None

-- A number that is at most `limit`.
abbrev pub up_to : ℕ → Option ℕ → Option ℕ
up_to limit None = None
up_to limit (Some number) = if nat_le number limit then Some number else None

-- Whether a word has no digit, or a 0 before another character.
abbrev pub is_ill_begun : List ℕ → Bool
is_ill_begun word = length word == 0 || (nat_lt 1 (length word) && slice_index word 0 == 48)

-- The number that a word of decimal digits spells, without leading zeros and at most `limit`.
abbrev pub number_of : ℕ → List ℕ → Option ℕ
number_of limit word = if is_ill_begun word then None else up_to limit (digits_after 0 word)
