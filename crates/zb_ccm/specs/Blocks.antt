-- Lists of bytes in blocks of 16, and what the cipher makes of them one after the other.
use Rattle.std.specs.Prelude.{ℕ, List, ◌++◌, ◌*◌, length, take, drop, replicate, map}
use Rattle.std.specs.Int.{div_ceil}
use Rattle.std.specs.List.{fold, range_with_len}
use Rattle.zb_aes.specs.Block.{enciphered}
use Rattle.zb_aes.specs.Bytes.{xored}

-- Block `i` of the bytes from 0 on, filled up with zeros.
abbrev pub block_at : List ℕ → ℕ → List ℕ
block_at bytes i = take 16 (drop (16 * i) bytes ++ replicate 16 0)

-- How many blocks `n` bytes fill, the last of them perhaps in part.
abbrev pub block_count : ℕ → ℕ
block_count n = div_ceil n 16

-- The bytes cut into blocks, the last filled up with zeros.
unfoldable pub blocks_of : List ℕ → List (List ℕ)
blocks_of bytes = map (block_at bytes) (range_with_len 0 (block_count (length bytes)))

-- Cipher block chaining: each block is added to the value so far, and the sum enciphered.
abbrev pub chained : List ℕ → List ℕ → List ℕ → List ℕ
chained key value block = enciphered key (xored value block)

abbrev pub chain : List ℕ → List ℕ → List (List ℕ) → List ℕ
chain key value blocks = fold (chained key) value blocks
