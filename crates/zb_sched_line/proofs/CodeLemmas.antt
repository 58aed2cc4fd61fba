-- The word of an install code.
use Rattle.std.proofs.Common.{◌≡◌, ℕ, ◌/◌, ◌%◌, ◌<◌, ◌==◌, ◌&&◌, ◌||◌, inl, inr, nat_lt, nat_le, ◌-◌, List, [], ◌∷◌, length, get_or, Bool, true, false, Option, Some, None, Result, Ok, Err, refl, arith, ap, sym, ◌∙◌, codes, bytes_eq}
use Rattle.std.specs.Prelude.{if◌then◌else◌, is_some}
use Rattle.std.specs.Char.{is_ascii_hexdigit}
use Rattle.std.specs.List.{list_all}
use Rattle.std.specs.Result.{result_ok}
use Rattle.std.proofs.Math.Bool.{and-false}
use Rattle.std.proofs.lemmas.Bool.Decides.{nat_tests}
use Rattle.std.proofs.lemmas.List.Folds.{list_all_at}
use Rattle.std.proofs.lemmas.List.Sums.{list_all-from_AllPass}
use Rattle.hex.specs.Hex.{decode_of, is_hex_digit}
use Rattle.hex.specs.declared.error.FromHexError.{FromHexError}
use Rattle.hex.proofs.HexLemmas.{decode_of-ok, decode_of-err}
use Rattle.zb_install.specs.Code.{code_of, is_code_length}
use Rattle.zb_install.specs.declared.code_error.CodeError.{CodeError}
use Rattle.zb_text.specs.Hexadecimal.{bytes_of}
use Rattle.std.specs.Option.{option_map}
use Rattle.hex.specs.Hex.{IsBytes}
use Rattle.zb_sched_line.specs.Codes.{is_code}
use Rattle.zb_sched_line.specs.Fits.{IsCode}
use Rattle.zb_sched_line.specs.Grammar.{code_of as word_of_code}

-- no more than 18 bytes are an install code
pub long_is_no_code : (bytes : List ℕ) → 18 < length bytes → is_code bytes ≡ false
unfolding code_of
long_is_no_code bytes long = let other : is_code_length (length bytes) ≡ false =
    grind (arith, nat_tests) in rw other refl

abbrev ok_or_nothing : Result (List ℕ) CodeError → List ℕ
ok_or_nothing (Ok bytes) = bytes
ok_or_nothing (Err e) = []

pick : (t u : Bool) (bytes code : List ℕ) (d e : CodeError) → (if t then (if u then Ok bytes else Err d) else Err e)
    ≡ Ok code → code ≡ bytes
pick true true bytes code d e h = sym (ap ok_or_nothing h)
pick true false bytes code d e h = cc h
pick false u bytes code d e h = cc h

-- an install code is the bytes that it is taken from
pub code_is_itself : (bytes code : List ℕ) → code_of bytes ≡ Ok code → code ≡ bytes
unfolding code_of
code_is_itself bytes code h = pick _ _ bytes code _ _ h

by_ranges : (a b d : Bool) (x y z : ℕ) → is_some (if a then Some x else if b then Some y else if d then Some z
    else None) ≡ ((d || a) || b)
by_ranges true true true x y z = refl
by_ranges true true false x y z = refl
by_ranges true false true x y z = refl
by_ranges true false false x y z = refl
by_ranges false true true x y z = refl
by_ranges false true false x y z = refl
by_ranges false false true x y z = refl
by_ranges false false false x y z = refl

is_hexdigit_same : (c : ℕ) → is_hex_digit c ≡ is_ascii_hexdigit c
is_hexdigit_same c =
    by_ranges (nat_le 65 c && nat_le c 70) (nat_le 97 c && nat_le c 102) (nat_le 48 c && nat_le c 57) (c - 55)
    (c - 87) (c - 48)

all_same : (bytes : List ℕ) → list_all is_hex_digit bytes ≡ list_all is_ascii_hexdigit bytes
all_same [] = refl
all_same (b ∷ bs) = rw (is_hexdigit_same b, all_same bs) refl

odd_is_no : (word : List ℕ) → length word % 2 ≡ 1 → false ≡ (length word % 2 == 0 && list_all is_hex_digit word)
odd_is_no word odd = let test : (length word % 2 == 0) ≡ false = grind (arith, nat_tests) in rw test refl

bad_is_no : (word : List ℕ) (k : ℕ) → k < length word → is_hex_digit (get_or word k 0) ≡ false → false
    ≡ (length word % 2 == 0 && list_all is_hex_digit word)
bad_is_no word k lt bad =
    sym (ap (λ b. length word % 2 == 0 && b) (list_all_at is_hex_digit word k 0 lt bad) ∙ and-false
    (length word % 2 == 0))

decoded : (word : List ℕ) (r : Result (List ℕ) FromHexError) → decode_of word ≡ r → is_some (result_ok r)
    ≡ (length word % 2 == 0 && list_all is_hex_digit word)
decoded word (Ok bytes) e =
    let ok = decode_of-ok word bytes e in
    let even : (length word % 2 == 0) ≡ true = grind (arith, nat_tests, ok.0) in
    rw (even, list_all-from_AllPass is_hex_digit word ok.1) refl
decoded word (Err fault) e =
    elim (decode_of-err word fault e) [ inl odd ↦ odd_is_no word odd.0 | inr bad ↦ bad_is_no word bad.0 bad.2 bad.3 ]

half_is_no_more : (n : ℕ) → nat_lt n (n / 2) ≡ false
half_is_no_more n = grind (arith, nat_tests)

-- a word that is neither `-` nor empty is bytes where it is pairs of digits
pub pairs_of_digits : (word : List ℕ) → bytes_eq word (codes "-") ≡ false → (length word == 0) ≡ false
    → (length word % 2 == 0 && list_all is_ascii_hexdigit word) ≡ is_some (bytes_of (length word) word)
pairs_of_digits word dash empty =
    ap (λ b. length word % 2 == 0 && b) (sym (all_same word)) ∙ sym (decoded word (decode_of word) refl)
    ∙ sym (rw (dash, empty, half_is_no_more (length word)) refl)

-- what is read with room for 18 bytes is read with any room
with_room : (dash empty over wide : Bool) (bytes : Option (List ℕ)) (found : List ℕ) → wide ≡ false
    → (if dash then Some [] else if empty then None else if over then None else bytes) ≡ Some found
    → (if dash then Some [] else if empty then None else if wide then None else bytes) ≡ Some found
with_room true empty over wide bytes found w h = h
with_room false true over wide bytes found w h = cc h
with_room false false true wide bytes found w h = cc h
with_room false false false wide bytes found w h = rw w h

pub small_word : (word bytes : List ℕ) → bytes_of 18 word ≡ Some bytes → bytes_of (length word) word ≡ Some bytes
small_word word bytes h =
    with_room (bytes_eq word (codes "-")) (length word == 0) (nat_lt 18 (length word / 2))
    (nat_lt (length word) (length word / 2)) (result_ok (decode_of word)) bytes
    (half_is_no_more (length word)) h

abbrev unwrapped : Option (List ℕ) → List ℕ
unwrapped None = []
unwrapped (Some bytes) = bytes

-- what is read only with more room has more than 18 bytes
found_bytes : (r : Result (List ℕ) FromHexError) (bytes : List ℕ) → result_ok r ≡ Some bytes → r ≡ Ok bytes
found_bytes (Ok bs) bytes h = ap Ok (ap unwrapped h)
found_bytes (Err e) bytes h = cc h

lacks_room : (dash empty over wide : Bool) (bytes : Option (List ℕ)) (found : List ℕ) → wide ≡ false
    → (if dash then Some [] else if empty then None else if over then None else bytes) ≡ None
    → (if dash then Some [] else if empty then None else if wide then None else bytes) ≡ Some found → (over ≡ true)
    × (bytes ≡ Some found)
lacks_room true empty over wide bytes found w h g = cc h
lacks_room false true over wide bytes found w h g = cc g
lacks_room false false true wide bytes found w h g = (refl, rw w at g)
lacks_room false false false wide bytes found w h g = cc (sym h ∙ (rw w at g))

pub long_word : (word bytes : List ℕ) → bytes_of 18 word ≡ None → bytes_of (length word) word ≡ Some bytes
    → is_code bytes ≡ false
long_word word bytes none some =
    let both = lacks_room (bytes_eq word (codes "-")) (length word == 0) (nat_lt 18 (length word / 2))
    (nat_lt (length word) (length word / 2)) (result_ok (decode_of word)) bytes
    (half_is_no_more (length word)) none some in
    let ok = decode_of-ok word bytes (found_bytes (decode_of word) bytes both.1) in
    let many : 18 < length bytes = grind (arith, nat_tests, both.0, ok.2) in
    long_is_no_code bytes many

-- the three ways in which the word of an install code is read
pub read_code : (word bytes code : List ℕ) → bytes_of 18 word ≡ Some bytes → code_of bytes ≡ Ok code
    → Some (Some code) ≡ word_of_code word
read_code word bytes code found taken =
    let same : code ≡ bytes = code_is_itself bytes code taken in
    sym (rw (small_word word bytes found, taken) (ap (λ x. Some (Some x)) (sym same)))

pub code_fits : (bytes code : List ℕ) → code_of bytes ≡ Ok code → IsBytes bytes → IsCode code
code_fits bytes code taken fit = let same : code ≡ bytes = code_is_itself bytes code taken in rw same
    (rw taken refl, fit)

unread : (word : List ℕ) (o : Option (List ℕ)) → bytes_of (length word) word ≡ o → is_some o ≡ true → bytes_of 18 word
    ≡ None → Some None ≡ option_map (λ bytes. if is_code bytes then Some bytes else None) o
unread word None e some none = cc some
unread word (Some bytes) e some none = rw (long_word word bytes none e) refl

pub unread_code : (word : List ℕ) → bytes_of 18 word ≡ None → is_some (bytes_of (length word) word) ≡ true → Some None
    ≡ word_of_code word
unread_code word none some = unread word (bytes_of (length word) word) refl some none
