-- No install code has more than 18 bytes with its CRC.
use Rattle.std.proofs.Common.{◌≡◌, ℕ, ◌<◌, List, length, false, ◌==◌, if◌then◌else◌, cond, Ok, Err, sym, ◌∙◌, ap, arith}
use Rattle.std.specs.Prelude.{is_err}
use Rattle.std.proofs.lemmas.Bool.{false≢true}
use Rattle.std.proofs.lemmas.Bool.Decides.{nat_tests}
use Rattle.zb_install.specs.Code.{code_of, code_part, crc_part, is_code_length}
use Rattle.zb_install.specs.Crc.{crc}
use Rattle.zb_install.specs.declared.code_error.CodeError.TheVariants.{Crc, Length}

no_length : (n : ℕ) → 18 < n → is_code_length n ≡ false
no_length n long = grind (arith, nat_tests)

pub long_code : (code : List ℕ) → 18 < length code → code_of code ≡ Err (Length (length code))
unfolding code_of
long_code code long =
    ap (λ b. cond b (if crc_part code == crc (code_part code) then Ok code
    else Err (Crc (crc_part code) (crc (code_part code)))) (Err (Length (length code))))
    (no_length (length code) long)

pub no_long_code : {P : Type 0} (code v : List ℕ) → 18 < length code → code_of code ≡ Ok v → P
no_long_code code v long ok = absurd (false≢true (ap is_err (sym ok ∙ long_code code long)))
