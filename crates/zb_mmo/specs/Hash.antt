-- The block-cipher hash of 05-3474-21, annex B.6 (Matyas, Meyer and Oseas), with AES-128: for messages below 2^16
-- bits.
use Rattle.std.specs.Prelude.{ℕ, List, ◌∷◌, ◌++◌, ◌+◌, ◌-◌, ◌*◌, ◌/◌, ◌%◌, length, take, drop, replicate, map}
use Rattle.std.specs.Int.{w16, to_be_bytes}
use Rattle.std.specs.List.{fold, range_with_len}
use Rattle.zb_aes.specs.Block.{enciphered}
use Rattle.zb_aes.specs.Bytes.{xored}

-- How many zeros stand after the byte that begins the padding of `n` bytes. With them the length, before the two bytes
-- that end it, is 14 more than a multiple of 16.
abbrev pub zeros : ℕ → ℕ
zeros n = (13 + 16 - n % 16) % 16

-- The padding of `n` bytes: a bit 1, zeros, and the number of bits in 2 bytes, the high byte first.
abbrev pub padding : ℕ → List ℕ
padding n = 0x80 ∷ replicate (zeros n) 0 ++ to_be_bytes w16 (8 * n)

-- The padded message.
abbrev pub padded : List ℕ → List ℕ
padded bytes = bytes ++ padding (length bytes)

-- The bytes cut into blocks of 16.
unfoldable pub blocks_of : List ℕ → List (List ℕ)
blocks_of bytes = map (λ i. take 16 (drop (16 * i) bytes)) (range_with_len 0 (length bytes / 16))

-- The value after a block: the block enciphered under the value before it, and added to that.
abbrev pub mixed : List ℕ → List ℕ → List ℕ
mixed value block = xored (enciphered value block) block

-- The value after all blocks.
abbrev pub mixed_all : List ℕ → List (List ℕ) → List ℕ
mixed_all value blocks = fold mixed value blocks

-- The longest message, in bytes: of fewer than 2^16 bits.
abbrev pub longest_message : ℕ
longest_message = 8191

-- The hash of a message.
unfoldable pub hash : List ℕ → List ℕ
hash bytes = mixed_all (replicate 16 0) (blocks_of (padded bytes))
