-- What the code makes of its vectors is what FIPS 197 defines on lists of sixteen bytes.
use Rattle.std.proofs.Common.{◌≡◌, ℕ, ◌<◌, List, [], ◌∷◌, ◌++◌, ◌∙◌, T, eqb, eqb→eq, refl, sym, ap, get_or, length, map, replicate, bit_xor, w8, Fits, arith}
use Rattle.std.proofs.lemmas.List.FromFn.{fill_by_all}
use Rattle.std.proofs.lemmas.Nat.{xor_comm}
use Rattle.std.proofs.lemmas.Simd.{Each1-get_or}
use Rattle.std.specs.Int.{w32, to_be_bytes}
use Rattle.std.specs.Int.Bits.{xor_assoc, xor_zero_r}
use Rattle.std.specs.Simd.Lanes.{pick_l, zip2}
use Rattle.zb_aes.proofs.Lanes.{Fit, for_all, for_all-at}
use Rattle.zb_aes.specs.Block.{last_round, mix_column, mix_columns, next_key, round, shift_rows}
use Rattle.zb_aes.specs.Bytes.{word_bytes, xored}
use Rattle.zb_aes.specs.Field.{substitute, times}

pub zip2-xored : (xs ys : List ℕ) → zip2 bit_xor xs ys ≡ xored xs ys
unfolding xored
zip2-xored [] ys = refl
zip2-xored (x ∷ xs) [] = refl
zip2-xored (x ∷ xs) (y ∷ ys) = ap (λ l. bit_xor x y ∷ l) (zip2-xored xs ys)

-- ---- states of four words

-- The bytes of four words.
abbrev pub four : (a b c d : ℕ) → List ℕ
four a b c d = word_bytes a ++ word_bytes b ++ word_bytes c ++ word_bytes d

xored-four : (a b c d j k l m : ℕ) → xored (four a b c d) (four j k l m)
    ≡ xored (word_bytes a) (word_bytes j) ++ xored (word_bytes b) (word_bytes k) ++ xored (word_bytes c) (word_bytes l)
    ++ xored (word_bytes d) (word_bytes m)
unfolding xored word_bytes
xored-four a b c d j k l m = refl

pub joined : (a b c d a' b' c' d' : List ℕ) → a ≡ a' → b ≡ b' → c ≡ c' → d ≡ d'
    → a ++ b ++ c ++ d ≡ a' ++ b' ++ c' ++ d'
joined a b c d a' b' c' d' p q r s = cc

pub xored-built : (a b c d j k l m e f g h : ℕ)
    → word_bytes e ≡ xored (word_bytes a) (word_bytes j) → word_bytes f ≡ xored (word_bytes b) (word_bytes k)
    → word_bytes g ≡ xored (word_bytes c) (word_bytes l) → word_bytes h ≡ xored (word_bytes d) (word_bytes m)
    → four e f g h ≡ xored (four a b c d) (four j k l m)
xored-built a b c d j k l m e f g h p q r s = joined _ _ _ _ _ _ _ _ p q r s ∙ sym (xored-four a b c d j k l m)

pub bytes-built : (a b c d : ℕ) (p q r s : List ℕ)
    → p ≡ to_be_bytes w32 a → q ≡ to_be_bytes w32 b → r ≡ to_be_bytes w32 c → s ≡ to_be_bytes w32 d
    → get_or p 0 0 ∷ get_or p 1 0 ∷ get_or p 2 0 ∷ get_or p 3 0
    ∷ get_or q 0 0 ∷ get_or q 1 0 ∷ get_or q 2 0 ∷ get_or q 3 0
    ∷ get_or r 0 0 ∷ get_or r 1 0 ∷ get_or r 2 0 ∷ get_or r 3 0
    ∷ get_or s 0 0 ∷ get_or s 1 0 ∷ get_or s 2 0 ∷ get_or s 3 0 ∷ []
    ≡ four a b c d
unfolding word_bytes
bytes-built a b c d p q r s i j k l = rw (i, j, k, l) refl

pub read-built : (xs : List ℕ) (a b c d : ℕ) → length xs ≡ 16
    → word_bytes a ≡ get_or xs 0 0 ∷ get_or xs 1 0 ∷ get_or xs 2 0 ∷ get_or xs 3 0 ∷ []
    → word_bytes b ≡ get_or xs 4 0 ∷ get_or xs 5 0 ∷ get_or xs 6 0 ∷ get_or xs 7 0 ∷ []
    → word_bytes c ≡ get_or xs 8 0 ∷ get_or xs 9 0 ∷ get_or xs 10 0 ∷ get_or xs 11 0 ∷ []
    → word_bytes d ≡ get_or xs 12 0 ∷ get_or xs 13 0 ∷ get_or xs 14 0 ∷ get_or xs 15 0 ∷ []
    → four a b c d ≡ xs
read-built xs a b c d h p q r s =
    joined _ _ _ _ _ _ _ _ p q r s ∙ sym (fill_by_all (λ i. get_or xs i 0) xs 16 0 h (λ k l. refl))

-- ---- rounds

-- A list of sixteen, element by element.
abbrev sixteen : (ℕ → ℕ) → List ℕ
sixteen f =
    f 0 ∷ f 1 ∷ f 2 ∷ f 3 ∷ f 4 ∷ f 5 ∷ f 6 ∷ f 7 ∷ f 8 ∷ f 9 ∷ f 10 ∷ f 11 ∷ f 12 ∷ f 13 ∷ f 14 ∷ f 15 ∷ []

sixteen-is : (xs : List ℕ) → length xs ≡ 16 → xs ≡ sixteen (λ i. get_or xs i 0)
sixteen-is xs h = fill_by_all (λ i. get_or xs i 0) xs 16 0 h (λ k l. refl)

shifted-of : (g f : ℕ → ℕ) → map g (shift_rows (sixteen f)) ≡ shift_rows (map g (sixteen f))
shifted-of g f = refl

pub shifted-map : (g : ℕ → ℕ) (state : List ℕ) → length state ≡ 16
    → map g (shift_rows state) ≡ shift_rows (map g state)
shifted-map g state h =
    let e = sixteen-is state h in
    ap (λ s. map g (shift_rows s)) e ∙ shifted-of g (λ i. get_or state i 0) ∙ ap (λ s. shift_rows (map g s)) (sym e)

pub last_round-is : (key state shifted : List ℕ) → length state ≡ 16 → shifted ≡ shift_rows state
    → xored (map substitute shifted) key ≡ last_round key state
unfolding last_round
last_round-is key state shifted h e = rw (e, shifted-map substitute state h) refl

-- {03} times a substituted byte.
trebled-all : T (for_all (λ b. eqb (times 3 (substitute b)) (bit_xor (times 2 (substitute b)) (substitute b))) 256)
unfolding substitute times
trebled-all = tt

trebled : (b : ℕ) → b < 256 → times 3 (substitute b) ≡ bit_xor (times 2 (substitute b)) (substitute b)
trebled b h =
    eqb→eq _ _
    (for_all-at (λ b. eqb (times 3 (substitute b)) (bit_xor (times 2 (substitute b)) (substitute b))) 256 trebled-all b
    h)

pub xor_left : (a b c : ℕ) → bit_xor a (bit_xor b c) ≡ bit_xor b (bit_xor a c)
xor_left a b c = sym (xor_assoc a b c) ∙ ap (λ x. bit_xor x c) (xor_comm a b) ∙ xor_assoc b a c

-- What the code makes of a row: the sum of {02} times its byte and the next byte, the byte before it, and the same sum
-- of the next row.
abbrev mixed_row : (double next last next_double after : ℕ) → ℕ
mixed_row double next last next_double after =
    bit_xor (bit_xor (bit_xor double next) last) (bit_xor next_double after)

mixed_column : (a b c d : ℕ) → a < 256 → b < 256 → c < 256 → d < 256
    → mixed_row (times 2 (substitute a)) (substitute b) (substitute d) (times 2 (substitute b)) (substitute c)
    ∷ mixed_row (times 2 (substitute b)) (substitute c) (substitute a) (times 2 (substitute c)) (substitute d)
    ∷ mixed_row (times 2 (substitute c)) (substitute d) (substitute b) (times 2 (substitute d)) (substitute a)
    ∷ mixed_row (times 2 (substitute d)) (substitute a) (substitute c) (times 2 (substitute a)) (substitute b)
    ∷ [] ≡ mix_column (substitute a) (substitute b) (substitute c) (substitute d)
unfolding mix_column
mixed_column a b c d p q r s =
    rw (trebled a p, trebled b q, trebled c r, trebled d s) (simp (xor_comm, xor_assoc, xor_left))

-- The columns of the code, as long as `one` has substituted bytes and `two` the same times {02}.
abbrev pub next_places : List ℕ
next_places = 1 ∷ 2 ∷ 3 ∷ 0 ∷ 5 ∷ 6 ∷ 7 ∷ 4 ∷ 9 ∷ 10 ∷ 11 ∷ 8 ∷ 13 ∷ 14 ∷ 15 ∷ 12 ∷ []

abbrev pub last_places : List ℕ
last_places = 3 ∷ 0 ∷ 1 ∷ 2 ∷ 7 ∷ 4 ∷ 5 ∷ 6 ∷ 11 ∷ 8 ∷ 9 ∷ 10 ∷ 15 ∷ 12 ∷ 13 ∷ 14 ∷ []

-- A vector whose bytes are read of `xs` at these places.
abbrev pub shuffled : (places xs : List ℕ) → List ℕ
shuffled places xs = pick_l 0 (xs ++ xs) places

abbrev pub mixed : (one two : List ℕ) → List ℕ
mixed one two =
    let pair = zip2 bit_xor two (shuffled next_places one) in
    zip2 bit_xor (zip2 bit_xor pair (shuffled last_places one)) (shuffled next_places pair)

abbrev pub doubled : ℕ → ℕ
doubled b = times 2 (substitute b)

mixed-is : (state : List ℕ) → Fit state
    → mixed (map substitute (shift_rows state)) (map doubled (shift_rows state))
    ≡ mix_columns (map substitute (shift_rows state))
unfolding mix_column
mixed-is state fit =
    let below : (i : ℕ) → i < 16 → get_or state i 0 < 256 =
    λ i h. (Each1-get_or (Fits w8) state i 0 (omega (arith, fit.0)) fit.1).fits in
    joined _ _ _ _ _ _ _ _
    (mixed_column _ _ _ _ (below 0 (omega arith)) (below 5 (omega arith))
    (below 10 (omega arith)) (below 15 (omega arith)))
    (mixed_column _ _ _ _ (below 4 (omega arith)) (below 9 (omega arith))
    (below 14 (omega arith)) (below 3 (omega arith)))
    (mixed_column _ _ _ _ (below 8 (omega arith)) (below 13 (omega arith))
    (below 2 (omega arith)) (below 7 (omega arith)))
    (mixed_column _ _ _ _ (below 12 (omega arith)) (below 1 (omega arith))
    (below 6 (omega arith)) (below 11 (omega arith)))

pub round-is : (key state shifted one two : List ℕ) → Fit state → shifted ≡ shift_rows state
    → one ≡ map substitute shifted → two ≡ map doubled shifted → xored (mixed one two) key ≡ round key state
unfolding round
round-is key state shifted one two fit e p q =
    let one-is : one ≡ map substitute (shift_rows state) = p ∙ ap (map substitute) e in
    let two-is : two ≡ map doubled (shift_rows state) = q ∙ ap (map doubled) e in
    rw (one-is, two-is)
    (ap (λ s. xored s key) (mixed-is state fit ∙ ap mix_columns (shifted-map substitute state fit.0)))

-- ---- the next round key

-- The places of the word before each, and of the word two before it, behind sixteen zeros.
abbrev pub one_back : List ℕ
one_back = 0 ∷ 0 ∷ 0 ∷ 0 ∷ 16 ∷ 17 ∷ 18 ∷ 19 ∷ 20 ∷ 21 ∷ 22 ∷ 23 ∷ 24 ∷ 25 ∷ 26 ∷ 27 ∷ []

abbrev pub two_back : List ℕ
two_back = 0 ∷ 0 ∷ 0 ∷ 0 ∷ 0 ∷ 0 ∷ 0 ∷ 0 ∷ 16 ∷ 17 ∷ 18 ∷ 19 ∷ 20 ∷ 21 ∷ 22 ∷ 23 ∷ []

abbrev pub turned_places : List ℕ
turned_places = 13 ∷ 14 ∷ 15 ∷ 12 ∷ 13 ∷ 14 ∷ 15 ∷ 12 ∷ 13 ∷ 14 ∷ 15 ∷ 12 ∷ 13 ∷ 14 ∷ 15 ∷ 12 ∷ []

-- The words of `xs` with the earlier ones that are read at these places added.
abbrev pub with_earlier : (places xs : List ℕ) → List ℕ
with_earlier places xs = zip2 bit_xor xs (pick_l 0 (replicate 16 0 ++ xs) places)

abbrev pub in_words : ℕ → List ℕ
in_words c = c ∷ 0 ∷ 0 ∷ 0 ∷ c ∷ 0 ∷ 0 ∷ 0 ∷ c ∷ 0 ∷ 0 ∷ 0 ∷ c ∷ 0 ∷ 0 ∷ 0 ∷ []

abbrev pub next_words : (constant : ℕ) (key sub : List ℕ) → List ℕ
next_words constant key sub =
    zip2 bit_xor (with_earlier two_back (with_earlier one_back key))
    (zip2 bit_xor (shuffled turned_places sub) (in_words constant))

next_words-is : (constant : ℕ) (f : ℕ → ℕ)
    → next_words constant (sixteen f) (map substitute (sixteen f)) ≡ next_key constant (sixteen f)
unfolding next_key xored
next_words-is constant f = simp (xor_assoc, xor_zero_r)

pub next_key-is : (constant : ℕ) (key sub : List ℕ) → length key ≡ 16 → sub ≡ map substitute key
    → next_words constant key sub ≡ next_key constant key
next_key-is constant key sub h e =
    let whole = sixteen-is key h in
    rw e (ap (λ k. next_words constant k (map substitute k)) whole ∙ next_words-is constant (λ i. get_or key i 0)
    ∙ ap (next_key constant) (sym whole))
