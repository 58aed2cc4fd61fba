-- The words of the generator: ChaCha with 8 rounds (4 double rounds), whose key is the start value in its first 4
-- bytes, low byte first, and 28 zeros, on stream 0.
use Rattle.std.specs.Prelude.{ℕ, ◌+◌, List, [], ◌∷◌, ◌++◌}
use Rattle.std.specs.Int.{w32, to_le_bytes}
use Rattle.rand_chacha.specs.ChaCha.{ChaCha, word_at}

-- The eight words of the key.
abbrev pub key_words : ℕ → List ℕ
key_words start = start ∷ 0 ∷ 0 ∷ 0 ∷ 0 ∷ 0 ∷ 0 ∷ 0 ∷ []

-- The word of that number, from 0.
unfoldable pub word : ℕ → ℕ → ℕ
word start place = word_at 4 (key_words start) 0 place

-- Four words as a key, each low byte first.
abbrev pub key_at : ℕ → ℕ → List ℕ
key_at start place =
    to_le_bytes w32 (word start place)
    ++ (to_le_bytes w32 (word start (place + 1))
    ++ (to_le_bytes w32 (word start (place + 2)) ++ to_le_bytes w32 (word start (place + 3))))

-- A generator that stands at a word.
pub record Place : Type 0 where
  pub start : ℕ
  pub place : ℕ

abbrev pub state_at : ℕ → ℕ → ChaCha
state_at start place = record { key = key_words start; stream = 0; word_pos = place }
