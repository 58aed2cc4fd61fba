-- The seed of a start value.
use Rattle.std.proofs.Common.{◌≡◌, ℕ, ◌<◌, ◌^◌, [], ◌∷◌, ◌++◌, replicate, ap, arith}
use Rattle.std.specs.Int.{w32, to_le_bytes}
use Rattle.rand_core.specs.Steps.{u32_at}
use Rattle.rand_chacha.specs.ChaCha.{key_of}
use Rattle.zb_gen.specs.Words.{key_words}

first_word : (start : ℕ) → start < 2 ^ 32 → u32_at (to_le_bytes w32 start ++ replicate 28 0) 0 ≡ start
unfolding u32_at
first_word start lt = omega arith

pub seed_words : (start : ℕ) → start < 2 ^ 32 → key_of (to_le_bytes w32 start ++ replicate 28 0) ≡ key_words start
unfolding u32_at
seed_words start lt = ap (λ (w : ℕ). w ∷ 0 ∷ 0 ∷ 0 ∷ 0 ∷ 0 ∷ 0 ∷ 0 ∷ []) (first_word start lt)
