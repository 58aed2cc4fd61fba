-- Hexadecimal digits: read in either case, written in upper case.
use Rattle.std.specs.Prelude.{ℕ, ◌==◌, ◌+◌, ◌*◌, ◌/◌, nat_lt, List, [], ◌∷◌, length, codes, bytes_eq, if◌then◌else◌, Option, Some, None}
use Rattle.std.specs.Option.{option_and_then}
use Rattle.std.specs.Result.{result_ok}
use Rattle.hex.specs.Hex.{decode_of, decode_sized, encode_upper, hex_digit_value}

-- The byte of two digits, the first for its high four bits.
abbrev pub byte_of_pair : ℕ → ℕ → Option ℕ
byte_of_pair high low =
    option_and_then (λ h. option_and_then (λ l. Some (h * 16 + l)) (hex_digit_value low)) (hex_digit_value high)

-- The bytes that a word of exactly two digits for each of `count` bytes spells.
abbrev pub fixed_of : ℕ → List ℕ → Option (List ℕ)
fixed_of count word = result_ok (decode_sized word count)

-- The bytes that a word spells, at most `limit` of them: `-` is no bytes, and others have two digits each.
abbrev pub bytes_of : ℕ → List ℕ → Option (List ℕ)
bytes_of limit word =
    if bytes_eq word (codes "-") then Some []
    else if length word == 0 then None
    else if nat_lt limit (length word / 2) then None
    else result_ok (decode_of word)

-- The word for some bytes.
abbrev pub bytes_text : List ℕ → List ℕ
bytes_text [] = codes "-"
bytes_text (byte ∷ more) = encode_upper (byte ∷ more)
