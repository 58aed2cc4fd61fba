-- Hexadecimal digits in capital letters: only these are printed, and what is read in them is spelled so.
use Rattle.std.proofs.Common.{◌≡◌, ℕ, zero, suc, ◌+◌, ◌*◌, ◌/◌, ◌%◌, ◌<◌, ◌==◌, nat_lt, List, [], ◌∷◌, ◌++◌, length, get_or, Bool, true, false, Option, Some, None, Result, Ok, Err, cond, refl, arith, ap, sym, ◌∙◌, codes, bytes_eq, append_assoc}
use Rattle.std.specs.Prelude.{if◌then◌else◌, IfSome}
use Rattle.std.specs.Int.{w16, w64, to_be_bytes, from_be_bytes}
use Rattle.std.specs.Option.{option_map, option_and_then}
use Rattle.std.specs.Result.{result_ok}
use Rattle.std.proofs.lemmas.Bool.{and_parts}
use Rattle.std.proofs.lemmas.Bool.Decides.{nat_tests}
use Rattle.std.proofs.lemmas.List.Sums.{AllPass-from_list_all}
use Rattle.std.proofs.lemmas.Nat.{be_bytes_2, be_bytes_8}
use Rattle.std.proofs.lemmas.Slice.Eq.{bytes_eq-Decides}
use Rattle.hex.specs.Hex.{decode_of, decode_pairs, encode_with, encode_upper, upper_digits, hex_digit_value, IsBytes}
use Rattle.hex.specs.declared.error.FromHexError.{FromHexError}
use Rattle.hex.specs.declared.error.FromHexError.TheVariants.{OddLength, InvalidStringLength}
use Rattle.hex.proofs.HexLemmas.{IsDigits-upper_digits, decode_pairs-ok}
use Rattle.zb_text.specs.Fields.{eui_of, eui_text, short_of, short_text, key_of}
use Rattle.zb_text.specs.Hexadecimal.{fixed_of, bytes_of, bytes_text}
use Rattle.zb_text.proofs.Digits.{encode_upper-append}
use Rattle.zb_text.proofs.Pairs.{spelled_from, decoded}
use Rattle.zb_text.proofs.ReadAgain.{IsBytes-eui, IsBytes-short}
use Rattle.zb_trace_read.specs.Grammar.{lacks_small, in_capitals, all_bytes_of}

-- What is printed is in capital letters.

capital_digit : (d : ℕ) → d < 16 → nat_lt (get_or upper_digits d 0) 97 ≡ true
capital_digit d lt = AllPass-from_list_all (λ byte. nat_lt byte 97) upper_digits refl d 0 lt

pub capital_digits : (bytes : List ℕ) → IsBytes bytes → lacks_small (encode_upper bytes) ≡ true
unfolding encode_with
capital_digits [] fit = refl
capital_digits (b ∷ bs) fit =
    let small : b < 256 = fit 0 in
    let high : nat_lt (get_or upper_digits (b / 16) 0) 97 ≡ true = capital_digit (b / 16) (omega arith) in
    let low : nat_lt (get_or upper_digits (b % 16) 0) 97 ≡ true = capital_digit (b % 16) (omega arith) in
    rw (high, low) (capital_digits bs (λ i. fit (suc i)))

pub capital_bytes : (bytes : List ℕ) → IsBytes bytes → lacks_small (bytes_text bytes) ≡ true
capital_bytes [] fit = refl
capital_bytes (b ∷ bs) fit = capital_digits (b ∷ bs) fit

pub capital_eui : (eui : ℕ) → lacks_small (eui_text eui) ≡ true
capital_eui eui = capital_digits (to_be_bytes w64 eui) (IsBytes-eui eui)

pub capital_short : (short : ℕ) → lacks_small (short_text short) ≡ true
capital_short short = capital_digits (to_be_bytes w16 short) (IsBytes-short short)

-- If a word has no small letter, its meaning is the same as in any letters.
pub kept : {X : Type 0} (meaning : List ℕ → Option X) (word : List ℕ) (x : X) → lacks_small word ≡ true
    → meaning word ≡ Some x → in_capitals meaning word ≡ Some x
kept meaning word x fit e = rw (fit, e) refl

-- What is read in capital letters is spelled so.

is_digit : (c u v : ℕ) → nat_lt c 97 ≡ true → nat_lt u 97 ≡ true → hex_digit_value c ≡ Some v → hex_digit_value u
    ≡ Some v → u ≡ c
is_digit c u v a b p q = grind (arith, nat_tests)

value_is_small : (c v : ℕ) → hex_digit_value c ≡ Some v → v < 16
value_is_small c v h = grind (arith)

digit_spelled : (c v : ℕ) → nat_lt c 97 ≡ true → hex_digit_value c ≡ Some v → get_or upper_digits v 0 ≡ c
digit_spelled c v capital reads =
    let small : v < 16 = value_is_small c v reads in
    is_digit c (get_or upper_digits v 0) v capital (capital_digit v small) reads (IsDigits-upper_digits v small)

abbrev two : ℕ → ℕ → List ℕ
two high low = high ∷ low ∷ []

one_byte : (high low h l : ℕ) → get_or upper_digits h 0 ≡ high → get_or upper_digits l 0 ≡ low → l < 16
    → encode_upper ((h * 16 + l) ∷ []) ≡ two high low
unfolding encode_with
one_byte high low h l p q small =
    let first : (h * 16 + l) / 16 ≡ h = omega arith in
    let second : (h * 16 + l) % 16 ≡ l = omega arith in
    rw (first, second, p, q) refl

-- If the text after some known bytes leads to a result, their digits and that text spell it.
abbrev Leads : List ℕ → List ℕ → Option (List ℕ) → Type 0
Leads done text o = IfSome o (λ bytes. encode_upper bytes ≡ encode_upper done ++ text)

pair_spelled : (done rest : List ℕ) (high low : ℕ) (h l : Option ℕ) → hex_digit_value high ≡ h
    → hex_digit_value low ≡ l → nat_lt high 97 ≡ true → nat_lt low 97 ≡ true
    → ((byte : ℕ) → Leads (done ++ byte ∷ []) rest (spelled_from (done ++ byte ∷ []) rest))
    → Leads done (high ∷ low ∷ rest)
    (option_and_then (λ byte. spelled_from (done ++ byte ∷ []) rest)
    (option_and_then (λ a. option_and_then (λ b. Some (a * 16 + b)) l) h))
pair_spelled done rest high low None l p q capital_high capital_low more = tt
pair_spelled done rest high low (Some a) None p q capital_high capital_low more = tt
pair_spelled done rest high low (Some a) (Some b) p q capital_high capital_low more =
    with_pair (spelled_from (done ++ (a * 16 + b) ∷ []) rest) (more (a * 16 + b))
  where
    front : encode_upper (done ++ (a * 16 + b) ∷ []) ++ rest ≡ encode_upper done ++ high ∷ low ∷ rest
    front =
        ap (λ t. t ++ rest)
        (encode_upper-append done ((a * 16 + b) ∷ [])
        ∙ ap (λ t. encode_upper done ++ t)
        (one_byte high low a b (digit_spelled high a capital_high p) (digit_spelled low b capital_low q)
        (value_is_small low b q)))
        ∙ append_assoc (encode_upper done) (two high low) rest

    with_pair : (o : Option (List ℕ)) → Leads (done ++ (a * 16 + b) ∷ []) rest o → Leads done (high ∷ low ∷ rest) o
    with_pair None leads = tt
    with_pair (Some bytes) leads = leads ∙ front

pairs_spelled : (done text : List ℕ) → lacks_small text ≡ true → Leads done text (spelled_from done text)
pairs_spelled done [] capital = sym (Rattle.std.proofs.Common.append-nil (encode_upper done))
pairs_spelled done (high ∷ []) capital = tt
pairs_spelled done (high ∷ low ∷ rest) capital =
    let first = and_parts (nat_lt high 97) (lacks_small (low ∷ rest)) capital in
    let second = and_parts (nat_lt low 97) (lacks_small rest) first.1 in
    pair_spelled done rest high low (hex_digit_value high) (hex_digit_value low) refl refl first.0 second.0
    (λ byte. pairs_spelled (done ++ byte ∷ []) rest second.1)

-- The digits of what a word decodes to are the word.
pub digits_spelled : (word bytes : List ℕ) → lacks_small word ≡ true → result_ok (decode_of word) ≡ Some bytes
    → encode_upper bytes ≡ word
unfolding encode_with
digits_spelled word bytes capital reads =
    leads (spelled_from [] word) (sym (decoded word) ∙ reads) (pairs_spelled [] word capital)
  where
    leads : (o : Option (List ℕ)) → o ≡ Some bytes → Leads [] word o → encode_upper bytes ≡ word
    leads None e spells = cc e
    leads (Some found) e spells = let same : found ≡ bytes = cc e in ap encode_upper (sym same) ∙ spells

-- What a number of bytes is read as: it decodes, there are that many, and they are bytes.
sized : (odd same : Bool) (r : Result (List ℕ) FromHexError) (bytes : List ℕ)
    → result_ok (if odd then Err OddLength else if same then r else Err InvalidStringLength) ≡ Some bytes
    → (result_ok (if odd then Err OddLength else r) ≡ Some bytes) × (same ≡ true) × (r ≡ Ok bytes)
sized true same r bytes e = cc e
sized false false r bytes e = cc e
sized false true (Ok found) bytes e = let same : found ≡ bytes = cc e in (e, refl, ap Ok same)
sized false true (Err fault) bytes e = cc e

abbrev pub IsFixed : ℕ → List ℕ → List ℕ → Type 0
IsFixed count word bytes = (encode_upper bytes ≡ word) × (length bytes ≡ count) × IsBytes bytes

pub fixed_spelled : (count : ℕ) (word bytes : List ℕ) → lacks_small word ≡ true → fixed_of count word ≡ Some bytes
    → IsFixed count word bytes
fixed_spelled count word bytes capital reads =
    let parts = sized (length word % 2 == 1) (length word / 2 == count) (decode_pairs 0 word) bytes reads in
    let pairs = decode_pairs-ok 0 word bytes parts.2 in
    let twice : length word ≡ 2 * length bytes = pairs.1 in
    let half : (length word / 2 == count) ≡ true = parts.1 in
    let many : length word / 2 ≡ count = grind (arith, nat_tests) in
    (digits_spelled word bytes capital parts.0, omega (arith, twice, many), pairs.2)

pub key_spelled : (word : List ℕ) → lacks_small word ≡ true → IfSome (key_of word) (λ key. encode_upper key ≡ word)
key_spelled word capital = spells (key_of word) refl
  where
    spells : (o : Option (List ℕ)) → fixed_of 16 word ≡ o → IfSome o (λ key. encode_upper key ≡ word)
    spells None e = tt
    spells (Some bytes) e = (fixed_spelled 16 word bytes capital e).0

pub eui_spelled : (word : List ℕ) → lacks_small word ≡ true → IfSome (eui_of word) (λ eui. eui_text eui ≡ word)
eui_spelled word capital = spells (fixed_of 8 word) refl
  where
    spells : (o : Option (List ℕ)) → fixed_of 8 word ≡ o
        → IfSome (option_map (λ bytes. from_be_bytes w64 bytes) o) (λ eui. eui_text eui ≡ word)
    spells None e = tt
    spells (Some bytes) e =
        let fixed = fixed_spelled 8 word bytes capital e in
        ap encode_upper (be_bytes_8 bytes (from_be_bytes w64 bytes) fixed.1 fixed.2 refl) ∙ fixed.0

pub short_spelled : (word : List ℕ) → lacks_small word ≡ true
    → IfSome (short_of word) (λ short. short_text short ≡ word)
short_spelled word capital = spells (fixed_of 2 word) refl
  where
    spells : (o : Option (List ℕ)) → fixed_of 2 word ≡ o
        → IfSome (option_map (λ bytes. from_be_bytes w16 bytes) o) (λ short. short_text short ≡ word)
    spells None e = tt
    spells (Some bytes) e =
        let fixed = fixed_spelled 2 word bytes capital e in
        ap encode_upper (be_bytes_2 bytes (from_be_bytes w16 bytes) fixed.1 fixed.2 refl) ∙ fixed.0

-- Bytes, or a dash
text_of_digits : (bytes word : List ℕ) → (length word == 0) ≡ false → encode_upper bytes ≡ word → bytes_text bytes
    ≡ word
unfolding encode_with
text_of_digits [] word some e =
    let none : length word ≡ 0 = sym (ap (length {A = ℕ}) e) in absurd (grind (arith, nat_tests))
text_of_digits (b ∷ bs) word some e = e

decoded_text : (word : List ℕ) (o : Option (List ℕ)) → result_ok (decode_of word) ≡ o → lacks_small word ≡ true
    → (length word == 0) ≡ false → IfSome o (λ bytes. bytes_text bytes ≡ word)
decoded_text word None e capital some = tt
decoded_text word (Some bytes) e capital some =
    text_of_digits bytes word some (digits_spelled word bytes capital e)

all_by_tests : (word : List ℕ) (dash none : Bool) → bytes_eq word (codes "-") ≡ dash → (length word == 0) ≡ none
    → lacks_small word ≡ true
    → IfSome (if dash then Some [] else if none then None else result_ok (decode_of word))
    (λ bytes. bytes_text bytes ≡ word)
all_by_tests word true none same empty capital = sym ((bytes_eq-Decides word (codes "-")).0 same)
all_by_tests word false true same empty capital = tt
all_by_tests word false false same empty capital = decoded_text word (result_ok (decode_of word)) refl capital empty

pub all_bytes_spelled : (word : List ℕ) → lacks_small word ≡ true
    → IfSome (all_bytes_of word) (λ bytes. bytes_text bytes ≡ word)
all_bytes_spelled word capital = all_by_tests word (bytes_eq word (codes "-")) (length word == 0) refl refl capital

some_by_tests : (word : List ℕ) (dash none over : Bool) → bytes_eq word (codes "-") ≡ dash
    → (length word == 0) ≡ none → lacks_small word ≡ true
    → IfSome (if dash then Some [] else if none then None else if over then None else result_ok (decode_of word))
    (λ bytes. bytes_text bytes ≡ word)
some_by_tests word true none over same empty capital = sym ((bytes_eq-Decides word (codes "-")).0 same)
some_by_tests word false true over same empty capital = tt
some_by_tests word false false true same empty capital = tt
some_by_tests word false false false same empty capital =
    decoded_text word (result_ok (decode_of word)) refl capital empty

pub bytes_spelled : (limit : ℕ) (word : List ℕ) → lacks_small word ≡ true
    → IfSome (bytes_of limit word) (λ bytes. bytes_text bytes ≡ word)
bytes_spelled limit word capital =
    some_by_tests word (bytes_eq word (codes "-")) (length word == 0) (nat_lt limit (length word / 2)) refl refl
    capital
