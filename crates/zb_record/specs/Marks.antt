-- Marks of numbers in a table of bytes: if a number has no mark, it is none of the noted numbers.
use Rattle.std.specs.Prelude.{ℕ, suc, ◌+◌, ◌*◌, ◌/◌, ◌%◌, ◌^◌, Bool, ◌||◌, if◌then◌else◌, List, length, get_or, set, take, drop, nat_eq}
use Rattle.std.specs.Int.{from_le_bytes, w64}
use Rattle.zb_model.specs.Data.{Bytes}

-- numbers of 64 bits that differ in few places are far apart
unfoldable pub spread : ℕ → ℕ
spread n = n * 11400714819323198485 % 2 ^ 64

-- the number of a key
unfoldable pub key_number : Bytes → ℕ
key_number key = spread ((from_le_bytes w64 (take 8 key) + from_le_bytes w64 (drop 8 key)) % 2 ^ 64)

-- the number of an EUI and of two bits about its row
unfoldable pub link_number : ℕ → Bool → Bool → ℕ
link_number partner unverified told = spread ((partner * 4 % 2 ^ 64
    + ((if unverified then 2 else 0) + (if told then 1 else 0))) % 2 ^ 64)

-- at which of `size` bytes a number is marked, by its high half
unfoldable pub place_of : ℕ → ℕ → ℕ
place_of size number = number / 2 ^ 32 * size % 2 ^ 64 / 2 ^ 32

-- the mark of a number, by its low bits; 0 is no mark, and 1 is the mark of all numbers
unfoldable pub mark_of : ℕ → ℕ
mark_of number = suc (suc (number % 128))

-- whether a byte may be there for a number
unfoldable pub is_mark_of : ℕ → ℕ → Bool
is_mark_of mark number = nat_eq mark 1 || nat_eq mark (mark_of number)

-- a byte after one more number is noted there
unfoldable pub mark_after : ℕ → ℕ → ℕ
mark_after mark number = if nat_eq mark 0 then mark_of number else 1

-- whether a number may have been noted; if its place is outside the table, it may
unfoldable pub may_have : List ℕ → ℕ → Bool
may_have marks number = is_mark_of (get_or marks (place_of (length marks) number) 1) number

unfoldable pub noted : List ℕ → ℕ → List ℕ
noted marks number = set marks (place_of (length marks) number)
    (mark_after (get_or marks (place_of (length marks) number) 1) number)
