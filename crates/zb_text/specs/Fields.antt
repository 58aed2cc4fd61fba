-- The words for parts of a network: names, addresses and keys.
use Rattle.std.specs.Prelude.{ℕ, ◌&&◌, ◌||◌, nat_le, List, length, Bool, if◌then◌else◌, Option, Some, None}
use Rattle.std.specs.List.{list_all}
use Rattle.std.specs.Char.{is_ascii_digit, is_ascii_lowercase}
use Rattle.std.specs.Int.{w16, w64, from_be_bytes, to_be_bytes}
use Rattle.std.specs.Option.{option_map}
use Rattle.hex.specs.Hex.{encode_upper}
use Rattle.zb_text.specs.Hexadecimal.{fixed_of}

-- Whether a byte may be part of a name: a to z and 0 to 9.
abbrev pub is_name_byte : ℕ → Bool
is_name_byte byte = is_ascii_lowercase byte || is_ascii_digit byte

-- Whether a word is a name: 1 to 16 such bytes.
abbrev pub is_name : List ℕ → Bool
is_name word = nat_le 1 (length word) && nat_le (length word) 16 && list_all is_name_byte word

-- A word as a name.
abbrev pub name_of : List ℕ → Option (List ℕ)
name_of word = if is_name word then Some word else None

-- The EUI that 16 digits spell, and its digits, most significant first.
abbrev pub eui_of : List ℕ → Option ℕ
eui_of word = option_map (λ bytes. from_be_bytes w64 bytes) (fixed_of 8 word)

abbrev pub eui_text : ℕ → List ℕ
eui_text eui = encode_upper (to_be_bytes w64 eui)

-- The short address that 4 digits spell, and its digits, most significant first.
abbrev pub short_of : List ℕ → Option ℕ
short_of word = option_map (λ bytes. from_be_bytes w16 bytes) (fixed_of 2 word)

abbrev pub short_text : ℕ → List ℕ
short_text short = encode_upper (to_be_bytes w16 short)

-- The key that 32 digits spell.
abbrev pub key_of : List ℕ → Option (List ℕ)
key_of word = fixed_of 16 word
