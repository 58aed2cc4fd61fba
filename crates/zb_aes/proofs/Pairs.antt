-- The substitution by pairs is the one that FIPS 197 defines, by computation over all bytes.
use Rattle.std.proofs.Common.{◌≡◌, ℕ, ◌/◌, List, ◌∙◌, T, ap, eqb, map, map-id, replicate, sym, bit_and, bit_xor, w8}
use Rattle.std.proofs.lemmas.Simd.{map-map, splat_is_map, swz_l, zip2_of_maps}
use Rattle.std.specs.Simd.Lanes.{zip2}
use Rattle.zb_aes.proofs.Lanes.{Fit, for_all, is_place, map-agree, swizzled}
use Rattle.zb_aes.specs.Field.{substitute, times}
use Rattle.zb_aes.specs.Pairs.{byte_of, first_inverse, found, inverted_at, second_inverse, sum_in}
use Rattle.zb_aes.specs.declared.substitution.TheConstants.{FIRST, FIRST_DOUBLED, HIGH_BITS, HIGH_PAIRS, LOW_BITS, LOW_PAIRS, SECOND, SECOND_DOUBLED}

-- ---- the places of the shuffles

pub low-places : T (for_all (λ p. is_place (bit_and p 15)) 256)
low-places = tt

pub high-places : T (for_all (λ p. is_place (p / 16)) 256)
high-places = tt

pub sum-places : T (for_all (λ p. is_place (sum_in p)) 256)
sum-places = tt

pub of_first-places : T (for_all (λ p. is_place (inverted_at (p / 16) p)) 256)
unfolding found
of_first-places = tt

pub of_sum-places : T (for_all (λ p. is_place (inverted_at (sum_in p) p)) 256)
unfolding found
of_sum-places = tt

pub first-places : T (for_all (λ p. is_place (first_inverse p)) 256)
unfolding first_inverse found
first-places = tt

pub second-places : T (for_all (λ p. is_place (second_inverse p)) 256)
unfolding second_inverse found
second-places = tt

-- ---- bytes as pairs, and back

-- What the code makes of a vector by a table for the low bits and one for the high bits.
abbrev by_bits : List ℕ → List ℕ → ℕ → ℕ
by_bits low high b = bit_xor (found low (bit_and b 15)) (found high (b / 16))

by_bits-is : (low high bytes lows highs : List ℕ) → Fit bytes → lows ≡ map (λ b. bit_and b 15) bytes
    → highs ≡ map (λ b. b / 16) bytes
    → zip2 bit_xor (swz_l w8 16 low 0 lows) (swz_l w8 16 high 0 highs) ≡ map (by_bits low high) bytes
by_bits-is low high bytes lows highs fit p q =
    zip2_of_maps bit_xor (λ b. found low (bit_and b 15)) (λ b. found high (b / 16)) bytes
    (swizzled low (λ b. bit_and b 15) bytes lows fit p) (swizzled high (λ b. b / 16) bytes highs fit q)

abbrev in_pairs : ℕ → ℕ
in_pairs = by_bits LOW_BITS HIGH_BITS

byte_of-in_pairs : T (for_all (λ b. eqb (byte_of (in_pairs b)) b) 256)
unfolding byte_of found
byte_of-in_pairs = tt

byte_of-bits : T (for_all (λ p. eqb (by_bits LOW_PAIRS HIGH_PAIRS p) (byte_of p)) 256)
unfolding byte_of found
byte_of-bits = tt

pub pairs-is : (bytes lows highs : List ℕ) → Fit bytes → lows ≡ map (λ b. bit_and b 15) bytes
    → highs ≡ map (λ b. b / 16) bytes
    → map byte_of (zip2 bit_xor (swz_l w8 16 LOW_BITS 0 lows) (swz_l w8 16 HIGH_BITS 0 highs)) ≡ bytes
pairs-is bytes lows highs fit p q =
    ap (map byte_of) (by_bits-is LOW_BITS HIGH_BITS bytes lows highs fit p q) ∙ map-map byte_of in_pairs bytes
    ∙ map-agree (λ b. byte_of (in_pairs b)) (λ b. b) byte_of-in_pairs bytes fit.1 ∙ map-id bytes

pub bytes_of-is : (pairs lows highs : List ℕ) → Fit pairs → lows ≡ map (λ b. bit_and b 15) pairs
    → highs ≡ map (λ b. b / 16) pairs
    → zip2 bit_xor (swz_l w8 16 LOW_PAIRS 0 lows) (swz_l w8 16 HIGH_PAIRS 0 highs) ≡ map byte_of pairs
bytes_of-is pairs lows highs fit p q =
    by_bits-is LOW_PAIRS HIGH_PAIRS pairs lows highs fit p q
    ∙ map-agree (by_bits LOW_PAIRS HIGH_PAIRS) byte_of byte_of-bits pairs fit.1

-- ---- the substitution

abbrev by_inverses : List ℕ → List ℕ → ℕ → ℕ → ℕ
by_inverses table-1 table-2 constant p =
    bit_xor (bit_xor (found table-1 (first_inverse p)) (found table-2 (second_inverse p))) constant

substituted-all : T (for_all (λ p. eqb (byte_of (by_inverses FIRST SECOND 0x5b p)) (substitute (byte_of p))) 256)
unfolding first_inverse second_inverse byte_of found substitute times
substituted-all = tt

doubled-all : T (for_all (λ p. eqb (byte_of (by_inverses FIRST_DOUBLED SECOND_DOUBLED 0x4e p))
    (times 2 (substitute (byte_of p)))) 256)
unfolding first_inverse second_inverse byte_of found substitute times
doubled-all = tt

-- What the code makes of the two inverses of each pair by a table for each, and the constant that it adds.
abbrev summed : (table-1 table-2 : List ℕ) (constant : ℕ) (first second : List ℕ) → List ℕ
summed table-1 table-2 constant first second =
    zip2 bit_xor (zip2 bit_xor (swz_l w8 16 table-1 0 first) (swz_l w8 16 table-2 0 second)) (replicate 16 constant)

summed-is : (table-1 table-2 : List ℕ) (constant : ℕ) (pairs first second : List ℕ) → Fit pairs
    → first ≡ map first_inverse pairs → second ≡ map second_inverse pairs
    → summed table-1 table-2 constant first second ≡ map (by_inverses table-1 table-2 constant) pairs
summed-is table-1 table-2 constant pairs first second fit p q =
    zip2_of_maps bit_xor (λ p. bit_xor (found table-1 (first_inverse p)) (found table-2 (second_inverse p)))
    (λ _. constant) pairs
    (zip2_of_maps bit_xor (λ p. found table-1 (first_inverse p)) (λ p. found table-2 (second_inverse p)) pairs
    (swizzled table-1 first_inverse pairs first fit p) (swizzled table-2 second_inverse pairs second fit q))
    (splat_is_map pairs 16 constant fit.0)

pub substituted-is : (pairs first second : List ℕ) → Fit pairs
    → first ≡ map first_inverse pairs → second ≡ map second_inverse pairs
    → map byte_of (summed FIRST SECOND 0x5b first second) ≡ map substitute (map byte_of pairs)
substituted-is pairs first second fit p q =
    ap (map byte_of) (summed-is FIRST SECOND 0x5b pairs first second fit p q)
    ∙ map-map byte_of (by_inverses FIRST SECOND 0x5b) pairs
    ∙ map-agree (λ p. byte_of (by_inverses FIRST SECOND 0x5b p)) (λ p. substitute (byte_of p)) substituted-all pairs
    fit.1
    ∙ sym (map-map substitute byte_of pairs)

pub doubled-is : (pairs first second : List ℕ) → Fit pairs
    → first ≡ map first_inverse pairs → second ≡ map second_inverse pairs
    → map byte_of (summed FIRST_DOUBLED SECOND_DOUBLED 0x4e first second)
    ≡ map (λ b. times 2 (substitute b)) (map byte_of pairs)
doubled-is pairs first second fit p q =
    ap (map byte_of) (summed-is FIRST_DOUBLED SECOND_DOUBLED 0x4e pairs first second fit p q)
    ∙ map-map byte_of (by_inverses FIRST_DOUBLED SECOND_DOUBLED 0x4e) pairs
    ∙ map-agree (λ p. byte_of (by_inverses FIRST_DOUBLED SECOND_DOUBLED 0x4e p))
    (λ p. times 2 (substitute (byte_of p))) doubled-all pairs fit.1
    ∙ sym (map-map (λ b. times 2 (substitute b)) byte_of pairs)
