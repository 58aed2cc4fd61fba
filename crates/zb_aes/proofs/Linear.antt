-- Pairs are added as their bytes are. So what the code makes of vectors of pairs is what FIPS 197 makes of their
-- bytes.
use Rattle.std.proofs.Common.{◌≡◌, ℕ, zero, suc, ◌/◌, ◌%◌, ◌<◌, List, [], ◌∷◌, ◌++◌, ◌∙◌, Bool, T, eqb, eqb→eq, ltb, ltb→lt, refl, sym, ap, get_or, length, map, replicate, bit_xor, w8, Fits, arith}
use Rattle.std.proofs.lemmas.List.{length-map}
use Rattle.std.proofs.lemmas.Nat.{xor_mod, xor_shr}
use Rattle.std.specs.Int.Bits.{xor_assoc}
use Rattle.std.specs.Simd.Lanes.{Each1, pick_l, zip2}
use Rattle.zb_aes.proofs.Blocks.{doubled, in_words, last_places, last_round-is, mixed, next_key-is, next_places, next_words, one_back, round-is, shifted-map, shuffled, turned_places, two_back, with_earlier, xor_left, zip2-xored}
use Rattle.zb_aes.proofs.Lanes.{Fit, for_all, for_all-at}
use Rattle.zb_aes.specs.Block.{last_round, next_key, round, shift_rows}
use Rattle.zb_aes.specs.Bytes.{xored}
use Rattle.zb_aes.specs.Field.{substitute}
use Rattle.zb_aes.specs.Pairs.{byte_of, found}
use Rattle.zb_aes.specs.declared.substitution.TheConstants.{HIGH_PAIRS, LOW_PAIRS}

-- A table of sixteen whose entries are added as their places are.
abbrev is_linear : List ℕ → ℕ → ℕ → Bool
is_linear table i j = eqb (found table (bit_xor i j)) (bit_xor (found table i) (found table j))

linear-at : (table : List ℕ) → T (for_all (λ i. for_all (is_linear table i) 16) 16) → (a b : ℕ) → a < 16 → b < 16
    → found table (bit_xor a b) ≡ bit_xor (found table a) (found table b)
linear-at table all a b p q =
    eqb→eq _ _ (for_all-at (is_linear table a) 16 (for_all-at (λ i. for_all (is_linear table i) 16) 16 all a p) b q)

low-linear : T (for_all (λ i. for_all (is_linear LOW_PAIRS i) 16) 16)
unfolding found
low-linear = tt

high-linear : T (for_all (λ i. for_all (is_linear HIGH_PAIRS i) 16) 16)
unfolding found
high-linear = tt

swapped : (a b c d : ℕ) → bit_xor (bit_xor a b) (bit_xor c d) ≡ bit_xor (bit_xor a c) (bit_xor b d)
swapped a b c d = simp (xor_assoc, xor_left)

byte_of-xor : (a b : ℕ) → byte_of (bit_xor a b) ≡ bit_xor (byte_of a) (byte_of b)
unfolding byte_of
byte_of-xor a b =
    let low : bit_xor a b % 16 ≡ bit_xor (a % 16) (b % 16) = xor_mod a b 4 in
    let high : bit_xor a b / 16 % 16 ≡ bit_xor (a / 16 % 16) (b / 16 % 16) =
    ap (λ n. n % 16) (xor_shr a b 4) ∙ xor_mod (a / 16) (b / 16) 4 in
    let lows : found LOW_PAIRS (bit_xor a b % 16) ≡ bit_xor (found LOW_PAIRS (a % 16)) (found LOW_PAIRS (b % 16)) =
    ap (found LOW_PAIRS) low ∙ linear-at LOW_PAIRS low-linear (a % 16) (b % 16) (omega arith) (omega arith) in
    let highs : found HIGH_PAIRS (bit_xor a b / 16 % 16)
    ≡ bit_xor (found HIGH_PAIRS (a / 16 % 16)) (found HIGH_PAIRS (b / 16 % 16)) =
    ap (found HIGH_PAIRS) high
    ∙ linear-at HIGH_PAIRS high-linear (a / 16 % 16) (b / 16 % 16) (omega arith) (omega arith) in
    (λ i. bit_xor (lows i) (highs i))
    ∙ swapped (found LOW_PAIRS (a % 16)) (found LOW_PAIRS (b % 16)) (found HIGH_PAIRS (a / 16 % 16))
    (found HIGH_PAIRS (b / 16 % 16))

byte_of-zero : byte_of 0 ≡ 0
unfolding byte_of found
byte_of-zero = refl

-- ---- the bytes of what shuffles and sums make

map-zip2 : (xs ys : List ℕ) → map byte_of (zip2 bit_xor xs ys) ≡ zip2 bit_xor (map byte_of xs) (map byte_of ys)
map-zip2 [] ys = refl
map-zip2 (x ∷ xs) [] = refl
map-zip2 (x ∷ xs) (y ∷ ys) = λ i. byte_of-xor x y i ∷ map-zip2 xs ys i

pub map-xored : (xs ys : List ℕ) → map byte_of (xored xs ys) ≡ xored (map byte_of xs) (map byte_of ys)
map-xored xs ys =
    ap (map byte_of) (sym (zip2-xored xs ys)) ∙ map-zip2 xs ys ∙ zip2-xored (map byte_of xs) (map byte_of ys)

pub get_or-bytes : (xs : List ℕ) (k : ℕ) → byte_of (get_or xs k 0) ≡ get_or (map byte_of xs) k 0
get_or-bytes [] k = byte_of-zero
get_or-bytes (x ∷ xs) zero = refl
get_or-bytes (x ∷ xs) (suc k) = get_or-bytes xs k

map-pick : (xs ks : List ℕ) → map byte_of (pick_l 0 xs ks) ≡ pick_l 0 (map byte_of xs) ks
map-pick xs [] = refl
map-pick xs (k ∷ ks) = λ i. get_or-bytes xs k i ∷ map-pick xs ks i

map-joined : (xs ys : List ℕ) → map byte_of (xs ++ ys) ≡ map byte_of xs ++ map byte_of ys
map-joined [] ys = refl
map-joined (x ∷ xs) ys = ap (λ l. byte_of x ∷ l) (map-joined xs ys)

map-shuffled : (xs ys ks : List ℕ)
    → map byte_of (pick_l 0 (xs ++ ys) ks) ≡ pick_l 0 (map byte_of xs ++ map byte_of ys) ks
map-shuffled xs ys ks = map-pick (xs ++ ys) ks ∙ ap (λ l. pick_l 0 l ks) (map-joined xs ys)

zeros-stay : map byte_of (replicate 16 0) ≡ replicate 16 0
unfolding byte_of found
zeros-stay = refl

map-mixed : (one two : List ℕ) → map byte_of (mixed one two) ≡ mixed (map byte_of one) (map byte_of two)
map-mixed one two =
    let next = map-shuffled one one next_places in
    let last = map-shuffled one one last_places in
    let pair = zip2 bit_xor two (shuffled next_places one) in
    let p : map byte_of pair ≡ zip2 bit_xor (map byte_of two) (shuffled next_places (map byte_of one)) =
    map-zip2 two (shuffled next_places one) ∙ ap (zip2 bit_xor (map byte_of two)) next in
    let q = map-zip2 pair (shuffled last_places one) ∙ (λ i. zip2 bit_xor (p i) (last i)) in
    let r = map-shuffled pair pair next_places ∙ ap (shuffled next_places) p in
    map-zip2 (zip2 bit_xor pair (shuffled last_places one)) (shuffled next_places pair)
    ∙ (λ i. zip2 bit_xor (q i) (r i))

-- ---- the bytes of a state of pairs

bytes-below : T (for_all (λ p. ltb (byte_of p) 256) 256)
unfolding byte_of found
bytes-below = tt

bytes-fit : (pairs : List ℕ) → Each1 (Fits w8) pairs → Each1 (Fits w8) (map byte_of pairs)
bytes-fit [] h = tt
bytes-fit (p ∷ pairs) h = (
  record { fits = ltb→lt (byte_of p) 256 (for_all-at (λ p. ltb (byte_of p) 256) 256 bytes-below p h.0.fits) },
  bytes-fit pairs h.1,
)

Fit-bytes : (pairs : List ℕ) → Fit pairs → Fit (map byte_of pairs)
Fit-bytes pairs fit = (length-map pairs byte_of ∙ fit.0, bytes-fit pairs fit.1)

pub round-of-pairs : (key state shifted one two : List ℕ) → Fit state → shifted ≡ shift_rows state
    → map byte_of one ≡ map substitute (map byte_of shifted) → map byte_of two ≡ map doubled (map byte_of shifted)
    → map byte_of (xored (mixed one two) key) ≡ round (map byte_of key) (map byte_of state)
round-of-pairs key state shifted one two fit e p q =
    map-xored (mixed one two) key ∙ ap (λ m. xored m (map byte_of key)) (map-mixed one two)
    ∙ round-is (map byte_of key) (map byte_of state) (map byte_of shifted) (map byte_of one) (map byte_of two)
    (Fit-bytes state fit) (ap (map byte_of) e ∙ shifted-map byte_of state fit.0) p q

pub last_round-of-pairs : (key state shifted sub : List ℕ) → Fit state → shifted ≡ shift_rows state
    → map byte_of sub ≡ map substitute (map byte_of shifted)
    → map byte_of (xored sub key) ≡ last_round (map byte_of key) (map byte_of state)
last_round-of-pairs key state shifted sub fit e p =
    map-xored sub key ∙ ap (λ s. xored s (map byte_of key)) p
    ∙ last_round-is (map byte_of key) (map byte_of state) (map byte_of shifted) (Fit-bytes state fit).0
    (ap (map byte_of) e ∙ shifted-map byte_of state fit.0)

constants-stay : (c : ℕ) → map byte_of (in_words c) ≡ in_words (byte_of c)
unfolding byte_of found
constants-stay c = refl

map-with_earlier : (places xs : List ℕ)
    → map byte_of (with_earlier places xs) ≡ with_earlier places (map byte_of xs)
map-with_earlier places xs =
    map-zip2 xs (pick_l 0 (replicate 16 0 ++ xs) places)
    ∙ ap (zip2 bit_xor (map byte_of xs))
    (map-shuffled (replicate 16 0) xs places ∙ ap (λ z. pick_l 0 (z ++ map byte_of xs) places) zeros-stay)

map-next_words : (constant : ℕ) (key sub : List ℕ)
    → map byte_of (next_words constant key sub) ≡ next_words (byte_of constant) (map byte_of key) (map byte_of sub)
map-next_words constant key sub =
    let two = with_earlier one_back key in
    let p = map-with_earlier two_back two ∙ ap (with_earlier two_back) (map-with_earlier one_back key) in
    let q = map-zip2 (shuffled turned_places sub) (in_words constant)
    ∙ (λ i. zip2 bit_xor (map-shuffled sub sub turned_places i) (constants-stay constant i)) in
    map-zip2 (with_earlier two_back two) (zip2 bit_xor (shuffled turned_places sub) (in_words constant))
    ∙ (λ i. zip2 bit_xor (p i) (q i))

pub next_key-of-pairs : (constant : ℕ) (key sub : List ℕ) → length key ≡ 16
    → map byte_of sub ≡ map substitute (map byte_of key)
    → map byte_of (next_words constant key sub) ≡ next_key (byte_of constant) (map byte_of key)
next_key-of-pairs constant key sub h e =
    map-next_words constant key sub
    ∙ next_key-is (byte_of constant) (map byte_of key) (map byte_of sub) (length-map key byte_of ∙ h) e
