-- The words of a state as a vector of bytes: each word has its bytes in the other order.
use Rattle.std.proofs.Common.{◌≡◌, ℕ, zero, suc, ◌+◌, ◌*◌, ◌/◌, ◌%◌, ◌^◌, ◌<◌, List, [], ◌∷◌, ◌++◌, ◌∙◌, refl, ap, get_or, length, map, w8, Fits, arith}
use Rattle.std.proofs.lemmas.Simd.{get_or_narrower, get_or_wider, pick_l_left}
use Rattle.std.specs.Simd.Lanes.{Each1, chunk, digits_l, number_l, pick_l}
use Rattle.zb_aes.proofs.Blocks.{four, joined, read-built}
use Rattle.zb_aes.proofs.Lanes.{Fit}
use Rattle.zb_aes.specs.Bytes.{word_bytes}

abbrev turns : List ℕ
turns = 3 ∷ 2 ∷ 1 ∷ 0 ∷ 7 ∷ 6 ∷ 5 ∷ 4 ∷ 11 ∷ 10 ∷ 9 ∷ 8 ∷ 15 ∷ 14 ∷ 13 ∷ 12 ∷ []

abbrev turned : List ℕ → List ℕ
turned bytes = pick_l 0 (bytes ++ bytes) turns

turned-one : (bytes : List ℕ) → length bytes ≡ 16 → turned bytes ≡ map (λ k. get_or bytes k 0) turns
turned-one bytes h = pick_l_left 0 bytes bytes 16 turns h tt

-- ---- from words
word-turned : (a p q r s : ℕ) → p ≡ a / 256 ^ 3 % 256 → q ≡ a / 256 ^ 2 % 256 → r ≡ a / 256 ^ 1 % 256
    → s ≡ a / 256 ^ 0 % 256 → p ∷ q ∷ r ∷ s ∷ [] ≡ word_bytes a
unfolding word_bytes
word-turned a p q r s h i j k =
    let last : s ≡ a % 2 ^ 8 = omega arith in
    rw (h, i, j, last) refl

length-digits : (q n x : ℕ) → length (digits_l q n x) ≡ n
length-digits q zero x = refl
length-digits q (suc n) x = ap suc (length-digits q n (x / q))

pub lanes-built : (a b c d : ℕ) → a < 2 ^ 32 → b < 2 ^ 32 → c < 2 ^ 32 → d < 2 ^ 32
    → turned (digits_l (2 ^ 8) 16 (number_l (2 ^ 32) (a ∷ b ∷ c ∷ d ∷ []))) ≡ four a b c d
lanes-built a b c d p q r s =
    let words : List ℕ = a ∷ b ∷ c ∷ d ∷ [] in
    let bytes : List ℕ = digits_l (2 ^ 8) 16 (number_l (2 ^ 32) words) in
    let at : (j i : ℕ) → i < 4 → 4 * j + i < 16 → get_or bytes (4 * j + i) 0 ≡ get_or words j 0 / 256 ^ i % 256 =
    λ j i h l. get_or_narrower (2 ^ 32) 4 (2 ^ 8) 16 words j i refl (p, (q, (r, (s, tt)))) h l in
    turned-one bytes (length-digits (2 ^ 8) 16 (number_l (2 ^ 32) words))
    ∙ joined _ _ _ _ _ _ _ _
    (word-turned a _ _ _ _ (at 0 3 (omega arith) (omega arith)) (at 0 2 (omega arith) (omega arith))
    (at 0 1 (omega arith) (omega arith)) (at 0 0 (omega arith) (omega arith)))
    (word-turned b _ _ _ _ (at 1 3 (omega arith) (omega arith)) (at 1 2 (omega arith) (omega arith))
    (at 1 1 (omega arith) (omega arith)) (at 1 0 (omega arith) (omega arith)))
    (word-turned c _ _ _ _ (at 2 3 (omega arith) (omega arith)) (at 2 2 (omega arith) (omega arith))
    (at 2 1 (omega arith) (omega arith)) (at 2 0 (omega arith) (omega arith)))
    (word-turned d _ _ _ _ (at 3 3 (omega arith) (omega arith)) (at 3 2 (omega arith) (omega arith))
    (at 3 1 (omega arith) (omega arith)) (at 3 0 (omega arith) (omega arith)))

-- ---- to words
below : (bytes : List ℕ) (i : ℕ) → Each1 (Fits w8) bytes → get_or bytes i 0 < 256
below [] i h = omega arith
below (x ∷ bytes) zero h = h.0.fits
below (x ∷ bytes) (suc i) h = below bytes i h.1

all-below : (bytes ks : List ℕ) → Each1 (Fits w8) bytes → Each1 (λ x. x < 2 ^ 8) (map (λ k. get_or bytes k 0) ks)
all-below bytes [] h = tt
all-below bytes (k ∷ ks) h = (below bytes k h, all-below bytes ks h)

number : (a b c d word : ℕ) → a < 256 → b < 256 → c < 256 → d < 256
    → word ≡ d + 256 * (c + 256 * (b + 256 * (a + 256 * 0))) → word_bytes word ≡ a ∷ b ∷ c ∷ d ∷ []
unfolding word_bytes
number a b c d word p q r s e =
    let first : word / 2 ^ 24 % 2 ^ 8 ≡ a = omega arith in
    let second : word / 2 ^ 16 % 2 ^ 8 ≡ b = omega arith in
    let third : word / 2 ^ 8 % 2 ^ 8 ≡ c = omega arith in
    let fourth : word % 2 ^ 8 ≡ d = omega arith in
    rw (first, second, third, fourth) refl

-- The bytes of the words that the code makes of a vector.
abbrev first_words : List ℕ → List ℕ
first_words bytes =
    let words = digits_l (2 ^ 32) 4 (number_l (2 ^ 8) bytes) in
    four (get_or words 0 0) (get_or words 1 0) (get_or words 2 0) (get_or words 3 0)

pub of_lanes-built : (lanes : List ℕ) → Fit lanes
    → first_words (turned lanes) ≡ lanes
of_lanes-built lanes fit =
    let picked : List ℕ = map (λ k. get_or lanes k 0) turns in
    let same = turned-one lanes fit.0 in
    let small : (i : ℕ) → get_or lanes i 0 < 256 = λ i. below lanes i fit.1 in
    let at : (j : ℕ) → j < 4 → get_or (digits_l (2 ^ 32) 4 (number_l (2 ^ 8) picked)) j 0
    ≡ number_l (2 ^ 8) (chunk (4 * j) 4 picked) =
    λ j h. get_or_wider (2 ^ 8) 4 (2 ^ 32) 4 picked j refl (all-below lanes turns fit.1) h in
    ap first_words same ∙ read-built lanes _ _ _ _ fit.0
    (number _ _ _ _ _ (small 0) (small 1) (small 2) (small 3) (at 0 (omega arith)))
    (number _ _ _ _ _ (small 4) (small 5) (small 6) (small 7) (at 1 (omega arith)))
    (number _ _ _ _ _ (small 8) (small 9) (small 10) (small 11) (at 2 (omega arith)))
    (number _ _ _ _ _ (small 12) (small 13) (small 14) (small 15) (at 3 (omega arith)))
