-- Lists of bytes, and the bytes of a 32-bit word.
use Rattle.std.specs.Prelude.{ℕ, List, [], ◌∷◌, bit_xor}
use Rattle.std.specs.Int.{w32, to_be_bytes}

-- The two lists added byte by byte, as far as the shorter of them goes (FIPS 197, 4.1).
unfoldable pub xored : List ℕ → List ℕ → List ℕ
xored (x ∷ xs) (y ∷ ys) = bit_xor x y ∷ xored xs ys
xored xs ys = []

-- The four bytes of a word, the highest first: a column of the state from its row 0 to its row 3.
unfoldable pub word_bytes : ℕ → List ℕ
word_bytes word = to_be_bytes w32 word
