-- Pairs of hexadecimal digits, one after the other.
use Rattle.std.proofs.Common.{◌≡◌, ℕ, ◌+◌, ◌*◌, ◌-◌, ◌<◌, ◌≤◌, ◌≢◌, ◌/◌, ◌%◌, ◌==◌, nat_lt, List, [], ◌∷◌, ◌++◌, length, get_or, take, drop, take_all, map, Bool, true, false, Option, Some, None, Result, Ok, Err, refl, sym, ap, ◌∙◌, arith, append_assoc, append-nil, length-append, length-take, length-drop, cond}
use Rattle.std.specs.Prelude.{if◌then◌else◌}
use Rattle.std.specs.Option.{option_map, option_and_then}
use Rattle.std.specs.Result.{result_ok}
use Rattle.std.specs.List.{range_with_len}
use Rattle.std.proofs.lemmas.List.{get_or-map}
use Rattle.std.proofs.lemmas.List.FromFn.{get_or-map-range_with_len}
use Rattle.std.proofs.lemmas.Bool.Decides.{nat_tests}
use Rattle.hex.specs.Hex.{◌>>=◌, hex_digit_value, digit_or_error, decode_pairs, decode_of}
use Rattle.hex.specs.declared.error.FromHexError.{FromHexError}
use Rattle.hex.specs.declared.error.FromHexError.TheVariants.{OddLength}
use Rattle.zb_text.specs.Hexadecimal.{byte_of_pair}
use Rattle.zb_text.specs.declared.hexadecimal.TheConstants.{VALUES}

-- The table is the digits' values, by computation.
abbrev value_kept : ℕ → Option ℕ
value_kept v = if nat_lt v 16 then Some v else None

table : map value_kept VALUES ≡ map hex_digit_value (range_with_len 0 256)
table = refl

table_at : (x : ℕ) → x < 256 → value_kept (get_or VALUES x 0) ≡ hex_digit_value x
table_at x h =
    sym (get_or-map value_kept VALUES x 0 None h) ∙ ap (λ l. get_or l x None) table
    ∙ get_or-map-range_with_len hex_digit_value 0 256 x x None h (omega arith)

pub digit_some : (x : ℕ) → x < 256 → get_or VALUES x 0 < 16 → Some (get_or VALUES x 0) ≡ hex_digit_value x
digit_some x h g =
    let t : nat_lt (get_or VALUES x 0) 16 ≡ true = grind (arith, nat_tests) in
    rw t at (table_at x h)

pub digit_none : (x : ℕ) → x < 256 → 16 ≤ get_or VALUES x 0 → None ≡ hex_digit_value x
digit_none x h g =
    let t : nat_lt (get_or VALUES x 0) 16 ≡ false = grind (arith, nat_tests) in
    rw t at (table_at x h)

-- What pairs of digits give after bytes that are already known.
abbrev pub spelled_from : List ℕ → List ℕ → Option (List ℕ)
spelled_from done [] = Some done
spelled_from done (high ∷ []) = None
spelled_from done (high ∷ low ∷ rest) =
    option_and_then (λ byte. spelled_from (done ++ byte ∷ []) rest) (byte_of_pair high low)

none_after : (f : ℕ → Option (List ℕ)) (o : Option ℕ) → ((byte : ℕ) → f byte ≡ None) → option_and_then f o ≡ None
none_after f None h = refl
none_after f (Some byte) h = h byte

odd : (done text : List ℕ) → length text % 2 ≡ 1 → spelled_from done text ≡ None
odd done [] h = absurd (omega arith)
odd done (x ∷ []) h = refl
odd done (high ∷ low ∷ rest) h =
    none_after (λ byte. spelled_from (done ++ byte ∷ []) rest) (byte_of_pair high low)
    (λ byte. odd (done ++ byte ∷ []) rest (omega arith))

one_more : (byte : ℕ) (done : List ℕ) (r : Result (List ℕ) FromHexError)
    → option_map (λ x. done ++ x) (result_ok (r >>= (λ bytes. Ok (byte ∷ bytes))))
    ≡ option_map (λ x. (done ++ byte ∷ []) ++ x) (result_ok r)
one_more byte done (Ok bytes) = rw append_assoc refl
one_more byte done (Err e) = refl

step : (high low i : ℕ) (done rest : List ℕ) (h l : Option ℕ)
    → ((d : List ℕ) → option_map (λ x. d ++ x) (result_ok (decode_pairs (i + 2) rest)) ≡ spelled_from d rest)
    → option_map (λ x. done ++ x)
    (result_ok ((digit_or_error high i h >>= (λ a. digit_or_error low (i + 1) l >>= (λ b. Ok (a * 16 + b))))
    >>= (λ byte. decode_pairs (i + 2) rest >>= (λ bytes. Ok (byte ∷ bytes)))))
    ≡ option_and_then (λ byte. spelled_from (done ++ byte ∷ []) rest)
    (option_and_then (λ a. option_and_then (λ b. Some (a * 16 + b)) l) h)
step high low i done rest None l again = refl
step high low i done rest (Some a) None again = refl
step high low i done rest (Some a) (Some b) again =
    one_more (a * 16 + b) done (decode_pairs (i + 2) rest) ∙ again (done ++ (a * 16 + b) ∷ [])

decodes : (i : ℕ) (done text : List ℕ)
    → option_map (λ x. done ++ x) (result_ok (decode_pairs i text)) ≡ spelled_from done text
unfolding decode_pairs
decodes i done [] = rw append-nil refl
decodes i done (x ∷ []) = refl
decodes i done (high ∷ low ∷ rest) =
    step high low i done rest (hex_digit_value high) (hex_digit_value low) (λ d. decodes (i + 2) d rest)

itself : (o : Option (List ℕ)) → option_map (λ x. [] ++ x) o ≡ o
itself None = refl
itself (Some x) = refl

judged : (text : List ℕ) (is_odd : Bool) → (length text % 2 == 1) ≡ is_odd
    → result_ok (cond {A = Result (List ℕ) FromHexError} is_odd (Err OddLength) (decode_pairs 0 text))
    ≡ spelled_from [] text
judged text true e =
    let is_odd : length text % 2 ≡ 1 = grind (arith, nat_tests) in sym (odd [] text is_odd)
judged text false e = sym (itself (result_ok (decode_pairs 0 text))) ∙ decodes 0 [] text

pub decoded : (text : List ℕ) → result_ok (decode_of text) ≡ spelled_from [] text
decoded text = judged text (length text % 2 == 1) refl

-- The first two digits of a text, and the text after them.
pub pairs_more : (done after text word : List ℕ) (byte : ℕ) → 2 ≤ length text
    → Some byte ≡ byte_of_pair (get_or text 0 0) (get_or text 1 0) → after ≡ done ++ byte ∷ []
    → spelled_from done text ≡ spelled_from [] word
    → spelled_from after (take (length text - 2) (drop 2 text)) ≡ spelled_from [] word
pairs_more done after [] word byte h e p q = absurd (omega arith)
pairs_more done after (x ∷ []) word byte h e p q = absurd (omega arith)
pairs_more done after (high ∷ low ∷ rest) word byte h e p q =
    let all : take (length (high ∷ low ∷ rest) - 2) rest ≡ rest = take_all _ rest (omega arith) in
    let here : spelled_from done (high ∷ low ∷ rest) ≡ spelled_from (done ++ byte ∷ []) rest = rw (sym e) refl in
    rw (all, p) (sym here ∙ q)

pub pairs_stop : (done text word : List ℕ) → 2 ≤ length text
    → None ≡ byte_of_pair (get_or text 0 0) (get_or text 1 0) → spelled_from done text ≡ spelled_from [] word
    → None ≡ result_ok (decode_of word)
pairs_stop done [] word h e q = absurd (omega arith)
pairs_stop done (x ∷ []) word h e q = absurd (omega arith)
pairs_stop done (high ∷ low ∷ rest) word h e q =
    let here : spelled_from done (high ∷ low ∷ rest) ≡ None = rw (sym e) refl in
    sym here ∙ q ∙ sym (decoded word)

pub pairs_end : (done text word : List ℕ) → length text ≡ 0 → spelled_from done text ≡ spelled_from [] word
    → Some done ≡ result_ok (decode_of word)
pairs_end done [] word h q = q ∙ sym (decoded word)
pairs_end done (x ∷ text) word h q = absurd (omega arith)

pub pairs_odd : (done text word : List ℕ) → length text < 2 → length text ≢ 0
    → spelled_from done text ≡ spelled_from [] word → None ≡ result_ok (decode_of word)
pairs_odd done [] word h g q = absurd (omega arith)
pairs_odd done (x ∷ []) word h g q = q ∙ sym (decoded word)
pairs_odd done (x ∷ y ∷ text) word h g q = absurd (omega arith)

pub pairs_room : (done after text : List ℕ) (byte n : ℕ) → 2 ≤ length text → after ≡ done ++ byte ∷ []
    → length done + length text / 2 ≤ n
    → length after + length (take (length text - 2) (drop 2 text)) / 2 ≤ n
pairs_room done after text byte n h p q =
    let one : length after ≡ length done + 1 = ap length p ∙ length-append done (byte ∷ []) in
    omega (arith, length-take (length text - 2) (drop 2 text), length-drop 2 text)
