-- The two inverses of each pair of a vector, as the code finds them by shuffles.
use Rattle.std.proofs.Common.{◌≡◌, ℕ, ◌/◌, List, ◌∙◌, bit_and, bit_xor, map, refl, w8}
use Rattle.std.proofs.lemmas.Simd.{swz_l, SwzOk, zip2_of_maps}
use Rattle.std.specs.Simd.Lanes.{zip2}
use Rattle.zb_aes.proofs.Lanes.{Fit, swizzle-ok, swizzled}
use Rattle.zb_aes.proofs.Pairs.{high-places, low-places, of_first-places, of_sum-places, sum-places}
use Rattle.zb_aes.specs.Pairs.{first_inverse, found, inverted_at, second_inverse, sum_in}
use Rattle.zb_aes.specs.declared.substitution.TheConstants.{INVERSES, SCALED}

abbrev found_of : List ℕ → List ℕ → List ℕ
found_of table places = swz_l w8 16 table 0 places

first-map : (pairs : List ℕ)
    → map (λ p. bit_xor (found INVERSES (inverted_at (p / 16) p)) (sum_in p)) pairs ≡ map first_inverse pairs
unfolding first_inverse
first-map pairs = refl

second-map : (pairs : List ℕ)
    → map (λ p. bit_xor (found INVERSES (inverted_at (sum_in p) p)) (p / 16)) pairs ≡ map second_inverse pairs
unfolding second_inverse
second-map pairs = refl

-- The vectors of the code: the pairs, and the first and the second element of each.
module _ (pairs first second : List ℕ) (fit : Fit pairs) (first-is : first ≡ map (λ p. p / 16) pairs)
    (second-is : second ≡ map (λ p. bit_and p 15) pairs) where
  abbrev sum : List ℕ
  sum = zip2 bit_xor first second

  abbrev of_first : List ℕ
  of_first = zip2 bit_xor (found_of INVERSES first) (found_of SCALED second)

  abbrev of_sum : List ℕ
  of_sum = zip2 bit_xor (found_of INVERSES sum) (found_of SCALED second)

  sum-is : sum ≡ map (λ p. sum_in p) pairs
  sum-is = zip2_of_maps bit_xor (λ p. p / 16) (λ p. bit_and p 15) pairs first-is second-is

  scaled-is : found_of SCALED second ≡ map (λ p. found SCALED (bit_and p 15)) pairs
  scaled-is = swizzled SCALED (λ p. bit_and p 15) pairs second fit second-is

  of_first-is : of_first ≡ map (λ p. inverted_at (p / 16) p) pairs
  of_first-is =
      zip2_of_maps bit_xor (λ p. found INVERSES (p / 16)) (λ p. found SCALED (bit_and p 15)) pairs
      (swizzled INVERSES (λ p. p / 16) pairs first fit first-is) scaled-is

  of_sum-is : of_sum ≡ map (λ p. inverted_at (sum_in p) p) pairs
  of_sum-is =
      zip2_of_maps bit_xor (λ p. found INVERSES (sum_in p)) (λ p. found SCALED (bit_and p 15)) pairs
      (swizzled INVERSES (λ p. sum_in p) pairs sum fit sum-is) scaled-is

  pub first-ok : SwzOk w8 16 16 0 first
  first-ok = swizzle-ok (λ p. p / 16) pairs first fit first-is high-places

  pub second-ok : SwzOk w8 16 16 0 second
  second-ok = swizzle-ok (λ p. bit_and p 15) pairs second fit second-is low-places

  pub sum-ok : SwzOk w8 16 16 0 sum
  sum-ok = swizzle-ok (λ p. sum_in p) pairs sum fit sum-is sum-places

  pub of_first-ok : SwzOk w8 16 16 0 of_first
  of_first-ok = swizzle-ok (λ p. inverted_at (p / 16) p) pairs of_first fit of_first-is of_first-places

  pub of_sum-ok : SwzOk w8 16 16 0 of_sum
  of_sum-ok = swizzle-ok (λ p. inverted_at (sum_in p) p) pairs of_sum fit of_sum-is of_sum-places

  pub first_inverse-is : zip2 bit_xor (found_of INVERSES of_first) sum ≡ map first_inverse pairs
  first_inverse-is =
      zip2_of_maps bit_xor (λ p. found INVERSES (inverted_at (p / 16) p)) (λ p. sum_in p) pairs
      (swizzled INVERSES (λ p. inverted_at (p / 16) p) pairs of_first fit of_first-is) sum-is
      ∙ first-map pairs

  pub second_inverse-is : zip2 bit_xor (found_of INVERSES of_sum) first ≡ map second_inverse pairs
  second_inverse-is =
      zip2_of_maps bit_xor (λ p. found INVERSES (inverted_at (sum_in p) p)) (λ p. p / 16) pairs
      (swizzled INVERSES (λ p. inverted_at (sum_in p) p) pairs of_sum fit of_sum-is) first-is
      ∙ second-map pairs
