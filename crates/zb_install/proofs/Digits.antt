-- Texts of hexadecimal digits.
use Rattle.std.proofs.Common.{◌≡◌, ℕ, zero, suc, ◌+◌, ◌-◌, ◌*◌, ◌%◌, ◌<◌, ◌≤◌, Bool, true, false, cond, not, ◌||◌, List, [], ◌∷◌, ◌∙◌, if◌then◌else◌, refl, sym, ap, length, get_or, Some, None, is_some, Result, Ok, Err, MatchResult, arith, ltb-false, eq-eqb, ne_eqb}
use Rattle.hex.proofs.HexLemmas.{decode_of-digits, decode_of-ok, decode_sized-twice}
use Rattle.hex.specs.Hex.{decode_of, decode_sized, is_hex_digit}
use Rattle.hex.specs.declared.error.FromHexError.{FromHexError}
use Rattle.std.proofs.lemmas.Bool.Decides.{nat_tests}
use Rattle.std.proofs.lemmas.Str.{encodes-chars, length-le-encodes}
use Rattle.std.proofs.lemmas.Str.Ascii.{IsAscii-from_all, encodes-IsAscii}
use Rattle.std.specs.Int.{is_in_range}
use Rattle.std.specs.List.{position, prefix_len}
use Rattle.std.specs.Result.{result_unwrap_or}
use Rattle.std.specs.Str.{IsUtf8, chars}
use Rattle.zb_install.specs.Code.{code_of, code_of_text, is_code_length, is_no_digit}
use Rattle.zb_install.specs.declared.code_error.CodeError.TheVariants.{Length, NotHex}

pub chars_le : (text : List ℕ) → IsUtf8 text → length (chars text) ≤ length text
chars_le text u = omega (arith, length-le-encodes (chars text), ap length (encodes-chars text u))

split : (b : Bool) (n m : ℕ) → suc n ≤ cond b (1 + m) 0 → (b ≡ true) × (n ≤ m)
split true n m h = (refl, omega arith)
split false n m h = absurd (omega arith)

within : (q : ℕ → Bool) (cs : List ℕ) → length cs ≤ prefix_len q cs
    → (k d : ℕ) → k < length cs → q (get_or cs k d) ≡ true
within q [] h k d g = absurd (omega arith)
within q (x ∷ xs) h zero d g = (split (q x) (length xs) (prefix_len q xs) h).0
within q (x ∷ xs) h (suc k) d g =
    within q xs (split (q x) (length xs) (prefix_len q xs) h).1 k d (omega arith)

none_found : (b : Bool) (i : ℕ) → cond b (Some i) None ≡ None → b ≡ false
none_found true i h = absurd (cc)
none_found false i h = refl

-- If no character fails the test, each is a digit.
all_digits : (cs : List ℕ) → position is_no_digit cs ≡ None
    → (k d : ℕ) → k < length cs → not (is_no_digit (get_or cs k d)) ≡ true
all_digits cs h = within (λ c. not (is_no_digit c)) cs (ltb-false _ _ (none_found _ _ h))

one_of : (a b d : Bool) (x y z : ℕ) → not (not ((a || b) || d)) ≡ true
    → is_some (if b then Some x else if d then Some y else if a then Some z else None) ≡ true
one_of a true d x y z h = refl
one_of a false true x y z h = refl
one_of true false false x y z h = refl
one_of false false false x y z h = absurd (cc)

hex_digit : (c : ℕ) → not (is_no_digit c) ≡ true → is_hex_digit c ≡ true
hex_digit c h =
    one_of (is_in_range 48 57 c) (is_in_range 65 70 c) (is_in_range 97 102 c) (c - 55) (c - 87) (c - 48) h

below : (c : ℕ) → not (is_no_digit c) ≡ true → c < 128
below c h = grind (arith, nat_tests)

-- The characters of a text of digits are its bytes.
same : (text : List ℕ) → IsUtf8 text → position is_no_digit (chars text) ≡ None → chars text ≡ text
same text u h =
    sym (encodes-IsAscii (chars text)
    (IsAscii-from_all (chars text) (λ k d g. below _ (all_digits (chars text) h k d g))))
    ∙ encodes-chars text u

digits : (text : List ℕ) (n : ℕ) → IsUtf8 text → position is_no_digit (chars text) ≡ None
    → length (chars text) ≡ 2 * n → (bytes : List ℕ) × (decode_of text ≡ Ok bytes)
digits text n u h e =
    let long : length text ≡ 2 * n = ap length (sym (same text u h)) ∙ e in
    decode_of-digits text (omega arith)
    (λ k d g. ap (λ l. is_hex_digit (get_or l k d)) (sym (same text u h))
    ∙ hex_digit (get_or (chars text) k d)
    (all_digits (chars text) h k d (omega (arith, ap length (same text u h)))))

pub decoded : (text out : List ℕ) (n : ℕ) (r : Result Unit FromHexError) → IsUtf8 text
    → position is_no_digit (chars text) ≡ None → length (chars text) ≡ 2 * n
    → MatchResult (decode_sized text n) (λ bytes. (r ≡ Ok tt) × (out ≡ bytes)) (λ e. r ≡ Err e)
    → out ≡ result_unwrap_or (decode_of text) []
decoded text out n r u h e m =
    let long : length text ≡ 2 * n = ap length (sym (same text u h)) ∙ e in
    let d = digits text n u h e in
    let k = rw (decode_sized-twice text n long ∙ d.1) at m in
    k.1 ∙ sym (rw d.1 refl)

pub text_odd : (text : List ℕ) (count : ℕ) → count ≡ length (chars text) → count % 2 ≡ 1
    → code_of_text text ≡ Err (NotHex count)
unfolding code_of_text
text_odd text count e odd =
    let test = eq-eqb (length (chars text) % 2) 1 (ap (λ n. n % 2) (sym e) ∙ odd) in
    rw test (ap (λ n. Err (NotHex n)) (sym e))

pub text_place : (text : List ℕ) (count at : ℕ) → count ≡ length (chars text) → (count % 2 ≡ 1 → ⊥)
    → position is_no_digit (chars text) ≡ Some at → code_of_text text ≡ Err (NotHex at)
unfolding code_of_text
text_place text count at e even p =
    let test = ne_eqb (length (chars text) % 2) 1 (λ o. even (ap (λ n. n % 2) e ∙ o)) in
    rw (test, p) refl

pub text_digits : (text : List ℕ) (count : ℕ) → count ≡ length (chars text) → (count % 2 ≡ 1 → ⊥)
    → position is_no_digit (chars text) ≡ None
    → code_of_text text ≡ code_of (result_unwrap_or (decode_of text) [])
unfolding code_of_text
text_digits text count e even p =
    let test = ne_eqb (length (chars text) % 2) 1 (λ o. even (ap (λ n. n % 2) e ∙ o)) in
    rw (test, p) refl

-- Digits that spell a number of bytes that no code has.
pub digits_wrong : (text : List ℕ) (n : ℕ) → IsUtf8 text → position is_no_digit (chars text) ≡ None
    → length (chars text) ≡ 2 * n → is_code_length n ≡ false
    → code_of (result_unwrap_or (decode_of text) []) ≡ Err (Length n)
unfolding code_of
digits_wrong text n u h e wrong =
    let d = digits text n u h e in
    let long : length text ≡ 2 * n = ap length (sym (same text u h)) ∙ e in
    let size : length d.0 ≡ n = omega (arith, (decode_of-ok text d.0 d.1).2) in
    rw (d.1, size, wrong) refl
