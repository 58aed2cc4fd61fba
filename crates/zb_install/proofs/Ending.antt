-- Adding ones to the remainder inverts all bits of the number.
use Rattle.std.proofs.Common.{◌≡◌, ℕ, ◌^◌, ◌<◌, List, ◌∙◌, sym, ap, bit_xor, replicate, arith}
use Rattle.std.proofs.lemmas.Nat.{xor_lt}
use Rattle.zb_install.specs.Division.{added, bits_from, number_of, remainder}
use Rattle.zb_install.proofs.Division.{bits-xor, number_of-bits}
use Rattle.zb_install.specs.Crc.{crc}

pub ends : (bytes : List ℕ) (register : ℕ) → register < 2 ^ 16 → bits_from 16 register ≡ remainder 0xffff bytes
    → bit_xor register 0xffff ≡ crc bytes
unfolding crc
ends bytes register h e =
    sym (number_of-bits 16 (bit_xor register 0xffff) (xor_lt 16 register 0xffff h (omega arith)))
    ∙ ap number_of (bits-xor register 0xffff 16 0)
    ∙ ap (λ l. number_of (added l (replicate 16 1))) e
