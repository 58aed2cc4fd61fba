-- Hexadecimal digits, byte by byte.
use Rattle.std.proofs.Common.{◌≡◌, ℕ, zero, suc, ◌+◌, ◌<◌, List, [], ◌∷◌, ◌++◌, ◌&&◌, nat_lt, length, get_or, take, drop, map, Bool, true, false, refl, lit<, append_assoc, take-append-drop, add-one, ap, sym, ◌∙◌, arith}
use Rattle.std.specs.List.{list_all, flat_map, range_with_len}
use Rattle.std.proofs.lemmas.Bool.{ltb-true}
use Rattle.std.proofs.Math.Seq.{take-suc}
use Rattle.std.specs.Int.{w16, to_le_bytes}
use Rattle.std.proofs.lemmas.List.{get_or-map}
use Rattle.std.proofs.lemmas.List.FromFn.{get_or-map-range_with_len}
use Rattle.hex.specs.Hex.{encode_with, encode_upper}
use Rattle.zb_text.specs.declared.hexadecimal.TheConstants.{PAIRS}

pub encode_upper-append : (xs ys : List ℕ) → encode_upper (xs ++ ys) ≡ encode_upper xs ++ encode_upper ys
unfolding encode_with
encode_upper-append [] ys = refl
encode_upper-append (x ∷ xs) ys = rw (encode_upper-append xs ys) refl

pub encode_upper_more : (bytes : List ℕ) (i : ℕ) → i < length bytes
    → encode_upper (take (i + 1) bytes) ≡ encode_upper (take i bytes) ++ encode_upper (get_or bytes i 0 ∷ [])
encode_upper_more bytes i within =
    rw add-one
    (ap encode_upper (take-suc bytes i 0 within) ∙ encode_upper-append (take i bytes) (get_or bytes i 0 ∷ []))

pub ruleset one_more_byte = (encode_upper_more, append_assoc)

-- ---- blocks of bytes

-- The table is the digits of each byte, by computation.
table : map (λ pair. to_le_bytes w16 pair) PAIRS ≡ map (λ byte. encode_upper (byte ∷ [])) (range_with_len 0 256)
unfolding encode_with
table = refl

pub pair_at : (b : ℕ) → b < 256 → to_le_bytes w16 (get_or PAIRS b 0) ≡ encode_upper (b ∷ [])
pair_at b h =
    sym (get_or-map (λ (pair : ℕ). to_le_bytes w16 pair) PAIRS b 0 [] h)
    ∙ ap (λ (l : List (List ℕ)). get_or l b []) table
    ∙ get_or-map-range_with_len (λ (byte : ℕ). encode_upper (byte ∷ [])) 0 256 b b [] h (omega arith)

-- pairs that are each the digits of a byte are the digits of all bytes
pub flat_pairs : (pairs : List (List ℕ)) (bytes : List ℕ) (d : List ℕ) → length pairs ≡ length bytes
    → ((k : ℕ) → k < length bytes → get_or pairs k d ≡ encode_upper (get_or bytes k 0 ∷ []))
    → flat_map (λ pair. pair) pairs ≡ encode_upper bytes
unfolding encode_with
flat_pairs [] [] d same each = refl
flat_pairs [] (b ∷ bs) d same each = absurd (omega arith)
flat_pairs (p ∷ ps) [] d same each = absurd (omega arith)
flat_pairs (p ∷ ps) (b ∷ bs) d same each =
    ap (λ (q : List ℕ). q ++ flat_map (λ pair. pair) ps) (each zero (omega arith))
    ∙ ap (λ (rest : List ℕ). encode_upper (b ∷ []) ++ rest)
    (flat_pairs ps bs d (omega arith) (λ k lt. each (suc k) (omega (arith, lt))))

-- a block is printed, and what is left of the bytes still leads to the whole
pub one_more_block : (whole before after rest more block : List ℕ) (n : ℕ) → block ≡ take n rest → more ≡ drop n rest
    → after ≡ before ++ encode_upper block → before ++ encode_upper rest ≡ whole → after ++ encode_upper more ≡ whole
one_more_block whole before after rest more block n b m a h =
    let joined : block ++ more ≡ rest = ap (λ (xs : List ℕ). xs ++ more) b ∙ ap (λ (ys : List ℕ). take n rest ++ ys) m
    ∙ take-append-drop n rest in
    ap (λ (xs : List ℕ). xs ++ encode_upper more) a
    ∙ append_assoc before (encode_upper block) (encode_upper more)
    ∙ ap (λ (xs : List ℕ). before ++ xs) (sym (encode_upper-append block more) ∙ ap encode_upper joined)
    ∙ h

-- ---- the digits are ASCII

and-true : (a b : Bool) → (a && b) ≡ true → (a ≡ true) × (b ≡ true)
and-true true b e = (refl, e)
and-true false b e = absurd (cc)

pub below : (xs : List ℕ) → list_all (λ x. nat_lt x 128) xs ≡ true → (i : ℕ) → get_or xs i 0 < 128
below [] all i = lit< tt
below (x ∷ xs) all zero = ltb-true x 128 (and-true (nat_lt x 128) (list_all (λ y. nat_lt y 128) xs) all).0
below (x ∷ xs) all (suc i) = below xs (and-true (nat_lt x 128) (list_all (λ y. nat_lt y 128) xs) all).1 i
