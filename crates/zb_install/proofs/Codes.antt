-- What is wrong with bytes that aren't an install code.
use Rattle.std.proofs.Common.{◌≡◌, ℕ, Bool, true, false, List, Ok, Err, ◌∙◌, refl, sym, length, eq-eqb, ne_eqb}
use Rattle.zb_install.specs.Code.{code_of, code_part, crc_part, is_code_length}
use Rattle.zb_install.specs.Crc.{crc}
use Rattle.zb_install.specs.declared.code_error.CodeError.TheVariants.{Length, Crc}

pub wrong_length : (bytes : List ℕ) (test : Bool) → test ≡ is_code_length (length bytes) → test ≡ false
    → code_of bytes ≡ Err (Length (length bytes))
unfolding code_of
wrong_length bytes test p q = let e : is_code_length (length bytes) ≡ false = sym p ∙ q in rw e refl

pub wrong_crc : (bytes : List ℕ) (test : Bool) (kept found : ℕ) → test ≡ is_code_length (length bytes) → test ≡ true
    → kept ≡ crc_part bytes → found ≡ crc (code_part bytes) → (kept ≡ found → ⊥) → code_of bytes ≡ Err (Crc kept found)
unfolding code_of
wrong_crc bytes test kept found p q k f ne =
    let e : is_code_length (length bytes) ≡ true = sym p ∙ q in
    let other = ne_eqb kept found ne in
    rw e (rw (sym k, sym f) (rw other refl))

pub right_code : (bytes : List ℕ) (test : Bool) (kept found : ℕ) → test ≡ is_code_length (length bytes) → test ≡ true
    → kept ≡ crc_part bytes → found ≡ crc (code_part bytes) → kept ≡ found → code_of bytes ≡ Ok bytes
unfolding code_of
right_code bytes test kept found p q k f same =
    let e : is_code_length (length bytes) ≡ true = sym p ∙ q in
    let equal = eq-eqb kept found same in
    rw e (rw (sym k, sym f) (rw equal refl))
