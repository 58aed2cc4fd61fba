-- One more digit of a number.
use Rattle.std.proofs.Common.{◌≡◌, ℕ, ◌+◌, ◌*◌, ◌-◌, ◌<◌, nat_le, List, [], ◌∷◌, length, get_or, drop, Bool, true, false, Option, None, refl, arith, add-one, drop-cons}
use Rattle.std.specs.Prelude.{if◌then◌else◌}
use Rattle.std.specs.Char.{is_ascii_digit}
use Rattle.std.proofs.lemmas.Bool.Decides.{nat_tests}
use Rattle.zb_text.specs.Numbers.{digits_after, up_to}

pub digit_read : (number i : ℕ) (bs : List ℕ) → i < length bs → is_ascii_digit (get_or bs i 0) ≡ true
    → digits_after number (drop i bs) ≡ digits_after (number * 10 + (get_or bs i 0 - 48)) (drop (i + 1) bs)
digit_read number i bs within digit = rw (drop-cons bs i 0, digit, add-one) refl

pub digit_none : (number i : ℕ) (bs : List ℕ) → i < length bs → is_ascii_digit (get_or bs i 0) ≡ false
    → digits_after number (drop i bs) ≡ None
digit_none number i bs within digit = rw (drop-cons bs i 0, digit) refl

-- more digits don't make a number smaller
over_digit : (digit : Bool) (limit : ℕ) (o : Option ℕ) → up_to limit o ≡ None
    → up_to limit (if digit then o else None) ≡ None
over_digit true limit o h = h
over_digit false limit o h = refl

over : (limit number : ℕ) (bs : List ℕ) → limit < number → up_to limit (digits_after number bs) ≡ None
over limit number [] lt = let no_more : nat_le number limit ≡ false = grind (arith, nat_tests) in rw no_more refl
over limit number (b ∷ bs) lt =
    over_digit (is_ascii_digit b) limit (digits_after (number * 10 + (b - 48)) bs)
    (over limit (number * 10 + (b - 48)) bs (omega arith))

pub digit_over : (limit number i : ℕ) (bs : List ℕ) → limit < number → up_to limit (digits_after number (drop i bs))
    ≡ None
digit_over limit number i bs lt = over limit number (drop i bs) lt

pub ruleset one_more_digit = (digit_read, digit_none, digit_over)
