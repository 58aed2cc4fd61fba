-- Install codes: of 16 bytes according to the Base Device Behavior, of 6, 8 and 12 bytes according to this project's
-- profile. The CRC of each comes after it.
use Rattle.std.specs.Prelude.{ℕ, ◌-◌, ◌%◌, ◌==◌, ◌||◌, not, Bool, List, [], Option, Some, None, Result, Ok, Err, if◌then◌else◌, length, take, drop}
use Rattle.std.specs.Char.{is_ascii_hexdigit}
use Rattle.std.specs.Int.{w16, from_le_bytes}
use Rattle.std.specs.List.{position}
use Rattle.std.specs.Result.{result_unwrap_or}
use Rattle.std.specs.Str.{chars}
use Rattle.hex.specs.Hex.{decode_of}
use Rattle.zb_install.specs.Crc.{crc}
use Rattle.zb_mmo.specs.Hash.{hash}
use Rattle.zb_install.specs.declared.code_error.CodeError.{CodeError}
use Rattle.zb_install.specs.declared.code_error.CodeError.TheVariants.{NotHex, Length, Crc}

-- The longest code with its CRC, in bytes.
abbrev pub longest_code : ℕ
longest_code = 18

-- The total lengths of a code and its CRC.
abbrev pub is_code_length : ℕ → Bool
is_code_length n = n == 8 || n == 10 || n == 14 || n == longest_code

-- The code before the CRC, and the CRC, least significant byte first.
abbrev pub code_part : List ℕ → List ℕ
code_part bytes = take (length bytes - 2) bytes

abbrev pub crc_part : List ℕ → ℕ
crc_part bytes = from_le_bytes w16 (drop (length bytes - 2) bytes)

-- The bytes, if they are a code and its CRC; else the first thing that is wrong.
unfoldable pub code_of : List ℕ → Result (List ℕ) CodeError
code_of bytes =
    if is_code_length (length bytes) then
    (if crc_part bytes == crc (code_part bytes) then Ok bytes else Err (Crc (crc_part bytes) (crc (code_part bytes))))
    else Err (Length (length bytes))

abbrev pub is_no_digit : ℕ → Bool
is_no_digit c = not (is_ascii_hexdigit c)

-- What the digits spell, if all characters are digits.
abbrev pub code_of_digits : List ℕ → Option ℕ → Result (List ℕ) CodeError
code_of_digits text (Some at) = Err (NotHex at)
code_of_digits text None = code_of (result_unwrap_or (decode_of text) [])

-- What a text of hexadecimal digits spells. The number of digits, and the place of the first character that isn't one,
-- count characters.
unfoldable pub code_of_text : List ℕ → Result (List ℕ) CodeError
code_of_text text =
    if length (chars text) % 2 == 1 then Err (NotHex (length (chars text)))
    else code_of_digits text (position is_no_digit (chars text))

-- The link key of a code: the hash of code and CRC together.
abbrev pub code_key : List ℕ → List ℕ
code_key bytes = hash bytes
