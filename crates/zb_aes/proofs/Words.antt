-- Words and states seen as their bytes.
use Rattle.std.proofs.Common.{◌≡◌, ℕ, zero, suc, ◌<◌, ◌/◌, ◌^◌, [], ◌∷◌, refl, get_or, bit_xor, arith}
use Rattle.std.proofs.lemmas.Nat.{xor_shr, xor_mod, be_bytes_4}
use Rattle.std.specs.Int.{w32, from_be_bytes}
use Rattle.zb_aes.specs.Bytes.{word_bytes, xored}

pub word_bytes-xor : (a b : ℕ) → word_bytes (bit_xor a b) ≡ xored (word_bytes a) (word_bytes b)
unfolding word_bytes xored
word_bytes-xor a b =
    rw (
      xor_shr a b 24,
      xor_mod (a / 2 ^ 24) (b / 2 ^ 24) 8,
      xor_shr a b 16,
      xor_mod (a / 2 ^ 16) (b / 2 ^ 16) 8,
      xor_shr a b 8,
      xor_mod (a / 2 ^ 8) (b / 2 ^ 8) 8,
      xor_mod a b 8,
    ) refl

each_below : (a b c d : ℕ) → a < 256 → b < 256 → c < 256 → d < 256 → (i : ℕ) → get_or (a ∷ b ∷ c ∷ d ∷ []) i 0 < 256
each_below a b c d p q r s zero = p
each_below a b c d p q r s (suc zero) = q
each_below a b c d p q r s (suc (suc zero)) = r
each_below a b c d p q r s (suc (suc (suc zero))) = s
each_below a b c d p q r s (suc (suc (suc (suc i)))) = omega arith

pub word_bytes-from_be : (a b c d : ℕ) → a < 256 → b < 256 → c < 256 → d < 256
    → word_bytes (from_be_bytes w32 (a ∷ b ∷ c ∷ d ∷ [])) ≡ a ∷ b ∷ c ∷ d ∷ []
unfolding word_bytes
word_bytes-from_be a b c d p q r s = be_bytes_4 (a ∷ b ∷ c ∷ d ∷ []) _ refl (each_below a b c d p q r s) refl

pub ruleset words = (word_bytes-xor, word_bytes-from_be)
