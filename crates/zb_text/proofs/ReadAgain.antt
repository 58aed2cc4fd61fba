-- What is printed reads back as itself.
use Rattle.std.proofs.Common.{◌≡◌, ℕ, ◌+◌, ◌*◌, ◌/◌, ◌%◌, ◌-◌, ◌^◌, ◌<◌, ◌≤◌, ◌==◌, ◌&&◌, ◌||◌, nat_le, nat_lt, List, [], ◌∷◌, ◌++◌, length, get_or, Bool, true, false, Option, Some, None, ◌⊎◌, inl, inr, refl, arith, lit<, ap, ◌∙◌, append_assoc, decimal, codes, bytes_eq, zero, suc}
use Rattle.std.specs.Prelude.{if◌then◌else◌}
use Rattle.std.specs.Char.{is_ascii_digit}
use Rattle.std.specs.Int.{w16, w64, to_be_bytes, from_be_bytes}
use Rattle.std.specs.List.{list_all, AllByRecursion}
use Rattle.std.specs.Option.{option_map}
use Rattle.std.specs.Result.{result_ok}
use Rattle.std.specs.Str.Lines.{lines, strip_carriage_return}
use Rattle.std.proofs.Math.Bool.{and-false}
use Rattle.std.proofs.lemmas.Bool.{cases_lt}
use Rattle.std.proofs.lemmas.Bool.Decides.{nat_tests}
use Rattle.std.proofs.lemmas.Slice.Eq.{bytes_eq-Decides}
use Rattle.std.proofs.lemmas.Fmt.{decimal_by_steps, decimal_nonempty, first_decimal, decimal_digit}
use Rattle.std.proofs.lemmas.List.Folds.{list_all-append}
use Rattle.std.proofs.lemmas.List.Splits.{slice_split_none, slice_split_at}
use Rattle.std.proofs.lemmas.List.Sums.{AllPass-from_list_all, list_all-from_AllPass}
use Rattle.std.proofs.lemmas.Nat.{from_be_bytes-to_be_bytes_2, from_be_bytes-to_be_bytes_8}
use Rattle.hex.specs.Hex.{encode_with, encode_upper, upper_digits, IsBytes}
use Rattle.hex.proofs.HexLemmas.{decode_of-encode_upper, decode_sized-twice, length-encode_with}
use Rattle.zb_text.specs.Fields.{is_name_byte, is_name, name_of, eui_of, eui_text, short_of, short_text}
use Rattle.zb_text.specs.Hexadecimal.{fixed_of, bytes_of, bytes_text}
use Rattle.zb_text.specs.Numbers.{digits_after, is_ill_begun, number_of}
use Rattle.zb_text.specs.Pages.{IsWord, IsLine, line_of_words, page}
use Rattle.zb_text.specs.Words.{words}
use Rattle.zb_text.proofs.LineCuts.{lines_front}
use Rattle.zb_text.proofs.NameLemmas.{name_byte_is_ascii}

-- ---- words and lines

lacks_space : (word : List ℕ) → IsWord word → (k d : ℕ) → k < length word → (get_or word k d == 32) ≡ false
lacks_space word fits k d lt =
    let above : nat_lt 32 (get_or word k d) ≡ true = AllPass-from_list_all (λ byte. nat_lt 32 byte) word fits k d lt
    in grind (arith, nat_tests)

-- the words of a line of words
pub words_again : (word : List ℕ) (more : List (List ℕ)) → IsWord word → AllByRecursion IsWord more
    → words (Some (line_of_words (word ∷ more))) ≡ word ∷ more
words_again word [] fits rest = slice_split_none (λ b. b == 32) word (lacks_space word fits)
words_again word (next ∷ more) fits rest =
    slice_split_at (λ b. b == 32) word 32 (line_of_words (next ∷ more)) (lacks_space word fits) refl
    ∙ ap (λ (ws : List (List ℕ)). word ∷ ws) (words_again next more rest.0 rest.1)

lacks_line_feed : (line : List ℕ) → IsLine line → (k d : ℕ) → k < length line → (get_or line k d == 10) ≡ false
lacks_line_feed line fits k d lt =
    let above : nat_lt 31 (get_or line k d) ≡ true = AllPass-from_list_all (λ byte. nat_lt 31 byte) line fits k d lt
    in grind (arith, nat_tests)

keeps_its_end : (line : List ℕ) → IsLine line → strip_carriage_return line ≡ line
keeps_its_end [] fits = refl
keeps_its_end (b ∷ bs) fits =
    let above : nat_lt 31 (get_or (b ∷ bs) (length (b ∷ bs) - 1) 0) ≡ true =
    AllPass-from_list_all (λ byte. nat_lt 31 byte) (b ∷ bs) fits (length (b ∷ bs) - 1) 0 (omega arith) in
    let other : (get_or (b ∷ bs) (length (b ∷ bs) - 1) 0 == 13) ≡ false = grind (arith, nat_tests) in
    rw other refl

-- the lines of a page
pub lines_again : (ls : List (List ℕ)) → AllByRecursion IsLine ls → lines (page ls) ≡ ls
lines_again [] fit = refl
lines_again (line ∷ more) fit =
    ap lines (append_assoc line (10 ∷ []) (page more))
    ∙ lines_front (line ++ 10 ∷ page more) line (page more)
    (slice_split_at (λ b. b == 10) line 10 (page more) (lacks_line_feed line fit.0) refl)
    ∙ rw (keeps_its_end line fit.0, lines_again more fit.1) refl

-- ---- numbers

abbrev value_or_zero : Option ℕ → ℕ
value_or_zero None = 0
value_or_zero (Some n) = n

if_read : (digit : Bool) (short long expected : Option ℕ) (after : ℕ) → (short ≡ Some after → long ≡ expected)
    → (if digit then short else None) ≡ Some after → (if digit then long else None) ≡ expected
if_read true short long expected after step e = step e
if_read false short long expected after step e = cc e

one_more_digit : (before after : ℕ) (digits : List ℕ) (digit : ℕ) → digits_after before digits ≡ Some after
    → digits_after before (digits ++ digit ∷ []) ≡ digits_after after (digit ∷ [])
one_more_digit before after [] digit e = ap (λ n. digits_after n (digit ∷ [])) (ap value_or_zero e)
one_more_digit before after (b ∷ bs) digit e =
    if_read (is_ascii_digit b) (digits_after (before * 10 + (b - 48)) bs)
    (digits_after (before * 10 + (b - 48)) (bs ++ digit ∷ []))
    (digits_after after (digit ∷ [])) after (one_more_digit (before * 10 + (b - 48)) after bs digit) e

last_digit : (before n : ℕ) → before * 10 + n % 10 ≡ n → digits_after before ((48 + n % 10) ∷ []) ≡ Some n
last_digit before n e =
    let digit : is_ascii_digit (48 + n % 10) ≡ true = grind (arith, nat_tests) in
    let value : before * 10 + (48 + n % 10 - 48) ≡ n = omega arith in
    rw (digit, value) refl

only_digit : (n : ℕ) → n < 10 → digits_after 0 ((48 + n) ∷ []) ≡ Some n
only_digit n lt =
    let digit : is_ascii_digit (48 + n) ≡ true = grind (arith, nat_tests) in
    let value : 0 * 10 + (48 + n - 48) ≡ n = omega arith in
    rw (digit, value) refl

digits_again : (n : ℕ) → n < 2 ^ 64 → digits_after 0 (decimal n) ≡ Some n
digits_again n lt =
    decimal_by_steps (λ m digits. digits_after 0 digits ≡ Some m) only_digit
    (λ m digits ten h. one_more_digit 0 (m / 10) digits (48 + m % 10) h ∙ last_digit (m / 10) m (omega arith)) n lt

ill : (empty long padded : Bool) → empty ≡ false → padded ≡ false → (empty || (long && padded)) ≡ false
ill empty long padded e p = rw (e, p) (and-false long)

well_begun_above : (n : ℕ) → 0 < n → n < 2 ^ 64 → is_ill_begun (decimal n) ≡ false
well_begun_above n pos lt =
    let some = decimal_nonempty n lt in
    let first = first_decimal n pos lt in
    let empty : (length (decimal n) == 0) ≡ false = grind (arith, nat_tests, some) in
    let padded : (get_or (decimal n) 0 0 == 48) ≡ false = grind (arith, nat_tests, first) in
    ill (length (decimal n) == 0) (nat_lt 1 (length (decimal n))) (get_or (decimal n) 0 0 == 48) empty padded

well_begun_by : (n : ℕ) → n < 2 ^ 64 → (0 < n) ⊎ (n ≤ 0) → is_ill_begun (decimal n) ≡ false
well_begun_by n lt (inl pos) = well_begun_above n pos lt
well_begun_by n lt (inr zero_at_most) = let is_zero : n ≡ 0 = omega arith in rw (is_zero, decimal_digit 0 (lit< tt))
    refl

well_begun : (n : ℕ) → n < 2 ^ 64 → is_ill_begun (decimal n) ≡ false
well_begun n lt = well_begun_by n lt (cases_lt 0 n)

pub number_again : (limit n : ℕ) → n ≤ limit → n < 2 ^ 64 → number_of limit (decimal n) ≡ Some n
number_again limit n le lt =
    let small : nat_le n limit ≡ true = grind (arith, nat_tests) in
    rw (well_begun n lt, digits_again n lt, small) refl

-- ---- bytes

pub fixed_again : (bytes : List ℕ) (count : ℕ) → length bytes ≡ count → IsBytes bytes
    → fixed_of count (encode_upper bytes) ≡ Some bytes
fixed_again bytes count long fit =
    let twice : length (encode_upper bytes) ≡ 2 * count = omega (arith, length-encode_with upper_digits bytes) in
    ap result_ok (decode_sized-twice (encode_upper bytes) count twice ∙ decode_of-encode_upper bytes fit)

false_unless : (b : Bool) → (b ≡ true → ⊥) → b ≡ false
false_unless true no_way = absurd (no_way refl)
false_unless false no_way = refl

pub differ : (xs ys : List ℕ) → (length xs ≡ length ys → ⊥) → bytes_eq xs ys ≡ false
differ xs ys longer =
    false_unless (bytes_eq xs ys) (λ same. longer (ap (length {A = ℕ}) ((bytes_eq-Decides xs ys).0 same)))

pub bytes_again : (limit : ℕ) (bytes : List ℕ) → length bytes ≤ limit → IsBytes bytes
    → bytes_of limit (bytes_text bytes) ≡ Some bytes
bytes_again limit [] le fit = refl
bytes_again limit (b ∷ bs) le fit =
    let twice = length-encode_with upper_digits (b ∷ bs) in
    let many : 0 < length (b ∷ bs) = omega arith in
    let no_dash : bytes_eq (encode_upper (b ∷ bs)) (codes "-") ≡ false = differ (encode_upper (b ∷ bs)) (codes "-")
    (λ e. absurd (omega arith)) in
    let some : (length (encode_upper (b ∷ bs)) == 0) ≡ false = grind (arith, nat_tests, twice, many) in
    let room : nat_lt limit (length (encode_upper (b ∷ bs)) / 2) ≡ false = grind (arith, nat_tests, twice, le) in
    rw (no_dash, some, room) (ap result_ok (decode_of-encode_upper (b ∷ bs) fit))

bytes_from_each : (bytes : List ℕ) → AllByRecursion (λ b. b < 256) bytes → IsBytes bytes
bytes_from_each [] fit i = lit< tt
bytes_from_each (b ∷ bs) fit zero = fit.0
bytes_from_each (b ∷ bs) fit (suc i) = bytes_from_each bs fit.1 i

pub IsBytes-eui : (eui : ℕ) → IsBytes (to_be_bytes w64 eui)
IsBytes-eui eui =
    bytes_from_each (to_be_bytes w64 eui) (
      omega arith,
      (omega arith, (omega arith, (omega arith, (omega arith, (omega arith, (omega arith, (omega arith, tt))))))),
    )

pub IsBytes-short : (short : ℕ) → IsBytes (to_be_bytes w16 short)
IsBytes-short short = bytes_from_each (to_be_bytes w16 short) (omega arith, (omega arith, tt))

pub eui_again : (eui : ℕ) → eui < 2 ^ 64 → eui_of (eui_text eui) ≡ Some eui
eui_again eui lt = ap (option_map (from_be_bytes w64)) (fixed_again (to_be_bytes w64 eui) 8 refl (IsBytes-eui eui)) ∙
    ap Some (from_be_bytes-to_be_bytes_8 eui lt)

pub short_again : (short : ℕ) → short < 2 ^ 16 → short_of (short_text short) ≡ Some short
short_again short lt =
    ap (option_map (from_be_bytes w16)) (fixed_again (to_be_bytes w16 short) 2 refl (IsBytes-short short)) ∙ ap Some
    (from_be_bytes-to_be_bytes_2 short lt)

-- ---- which texts are words

and_right : (a b : Bool) → (a && b) ≡ true → b ≡ true
and_right true b h = h
and_right false b h = cc h

weaker : (p q : ℕ → Bool) → ((b : ℕ) → p b ≡ true → q b ≡ true) → (bs : List ℕ) → list_all p bs ≡ true → list_all q bs
    ≡ true
weaker p q implies bs h =
    list_all-from_AllPass q bs (λ k d lt. implies (get_or bs k d) (AllPass-from_list_all p bs h k d lt))

above_space : (b : ℕ) → is_name_byte b ≡ true → nat_lt 32 b ≡ true
above_space b h = let ranges = name_byte_is_ascii b h in grind (arith, nat_tests, ranges)

pub IsWord-name : (name : List ℕ) → is_name name ≡ true → IsWord name
IsWord-name name h =
    weaker is_name_byte (λ byte. nat_lt 32 byte) above_space name
    (and_right (nat_le 1 (length name) && nat_le (length name) 16) (list_all is_name_byte name) h)

IsWord-append : (xs ys : List ℕ) → IsWord xs → IsWord ys → IsWord (xs ++ ys)
IsWord-append xs ys p q = rw (list_all-append (λ byte. nat_lt 32 byte) xs ys, p, q) refl

digit_word : (b : ℕ) → 32 < b → IsWord (b ∷ [])
digit_word b above = let test : nat_lt 32 b ≡ true = grind (arith, nat_tests) in rw test refl

pub IsWord-decimal : (n : ℕ) → n < 2 ^ 64 → IsWord (decimal n)
IsWord-decimal n lt =
    decimal_by_steps (λ m digits. IsWord digits) (λ m small. digit_word (48 + m) (omega arith))
    (λ m digits ten h. IsWord-append digits ((48 + m % 10) ∷ []) h (digit_word (48 + m % 10) (omega arith))) n lt

digit_above : (d : ℕ) → d < 16 → nat_lt 32 (get_or upper_digits d 0) ≡ true
digit_above d lt = AllPass-from_list_all (λ byte. nat_lt 32 byte) upper_digits refl d 0 lt

pub IsWord-digits : (bytes : List ℕ) → IsBytes bytes → IsWord (encode_upper bytes)
unfolding encode_with
IsWord-digits [] fit = refl
IsWord-digits (b ∷ bs) fit =
    let small : b < 256 = fit 0 in
    let high : nat_lt 32 (get_or upper_digits (b / 16) 0) ≡ true = digit_above (b / 16) (omega arith) in
    let low : nat_lt 32 (get_or upper_digits (b % 16) 0) ≡ true = digit_above (b % 16) (omega arith) in
    rw (high, low) (IsWord-digits bs (λ i. fit (suc i)))

pub IsWord-bytes : (bytes : List ℕ) → IsBytes bytes → IsWord (bytes_text bytes)
IsWord-bytes [] fit = refl
IsWord-bytes (b ∷ bs) fit = IsWord-digits (b ∷ bs) fit

line_byte : (b : ℕ) → nat_lt 32 b ≡ true → nat_lt 31 b ≡ true
line_byte b h = grind (arith, nat_tests)

pub IsLine-word : (word : List ℕ) → IsWord word → IsLine word
IsLine-word word fit = weaker (λ byte. nat_lt 32 byte) (λ byte. nat_lt 31 byte) line_byte word fit

pub IsLine-words : (words : List (List ℕ)) → AllByRecursion IsWord words → IsLine (line_of_words words)
IsLine-words [] fit = refl
IsLine-words (word ∷ []) fit = IsLine-word word fit.0
IsLine-words (word ∷ next ∷ more) fit =
    rw (
      list_all-append (λ byte. nat_lt 31 byte) word (32 ∷ line_of_words (next ∷ more)),
      IsLine-word word fit.0,
      IsLine-words (next ∷ more) fit.1,
    ) refl

pub name_again : (name : List ℕ) → is_name name ≡ true → name_of name ≡ Some name
name_again name h = rw h refl

-- ---- the same with names that a function's attribute can have

pub ruleset lines_of_words = (IsLine-words)

pub ruleset decimal_words = (IsWord-decimal)

pub ruleset name_words = (IsWord-name)

pub ruleset digit_words = (IsWord-digits)

pub ruleset byte_words = (IsWord-bytes)

pub eui_words : (eui : ℕ) → IsWord (eui_text eui)
eui_words eui = IsWord-digits (to_be_bytes w64 eui) (IsBytes-eui eui)

pub short_words : (short : ℕ) → IsWord (short_text short)
short_words short = IsWord-digits (to_be_bytes w16 short) (IsBytes-short short)
