-- Keys are compared as two numbers, which is the order of their bytes.
use Rattle.std.proofs.Common.{◌≡◌, ◌+◌, ◌*◌, ◌<◌, ◌≤◌, ℕ, suc, zero, Bool, ◌&&◌, List, [], ◌∷◌, length, take, drop, get_or, nat_eq, refl, ap, sym, ◌∙◌, arith, length-take, length-drop}
use Rattle.std.proofs.lemmas.Cmp.{ranked}
use Rattle.std.specs.Cmp.{unsigned_ties}
use Rattle.std.specs.Cmp.Lexicographic.{pointwise, slice_cmp, texts_ties}
use Rattle.std.specs.Int.{from_be_bytes, w64}
use Rattle.std.specs.Ordering.{MatchOrdering, is_eq, nat_cmp, ordering_then}
use Rattle.std.specs.declared.cmp.Ordering.{Ordering}
use Rattle.std.specs.declared.cmp.Ordering.TheVariants.{Less, Equal, Greater}

abbrev Bytes : List ℕ → Type 0
Bytes bs = (i : ℕ) → get_or bs i 0 < 256

-- two orders, one after the other

then_again : (o p q : Ordering) → ordering_then (ordering_then o p) q ≡ ordering_then o (ordering_then p q)
then_again Less p q = refl
then_again Equal p q = refl
then_again Greater p q = refl

then_end : (o : Ordering) → o ≡ ordering_then o Equal
then_end Less = refl
then_end Equal = refl
then_end Greater = refl

then_equal : (o p : Ordering) → is_eq (ordering_then o p) ≡ (is_eq o && is_eq p)
then_equal Less p = refl
then_equal Equal p = refl
then_equal Greater p = refl

-- the order of two numbers

is_less : (x y : ℕ) (o : Ordering) → MatchOrdering o (x < y) (x ≡ y) (y < x) → x < y → o ≡ Less
is_less x y Less h l = refl
is_less x y Equal h l = let e : x ≡ y = h in absurd (omega arith)
is_less x y Greater h l = let e : y < x = h in absurd (omega arith)

is_greater : (x y : ℕ) (o : Ordering) → MatchOrdering o (x < y) (x ≡ y) (y < x) → y < x → o ≡ Greater
is_greater x y Less h l = let e : x < y = h in absurd (omega arith)
is_greater x y Equal h l = let e : x ≡ y = h in absurd (omega arith)
is_greater x y Greater h l = refl

-- two numbers, each with one more byte

with_byte : (a b u v : ℕ) (o p q : Ordering) → u < 256 → v < 256 → MatchOrdering o (a < b) (a ≡ b) (b < a)
    → MatchOrdering p (u < v) (u ≡ v) (v < u)
    → MatchOrdering q (a * 256 + u < b * 256 + v) (a * 256 + u ≡ b * 256 + v) (b * 256 + v < a * 256 + u)
    → q ≡ ordering_then o p
with_byte a b u v Less p q small other h k l =
    let e : a < b = h in is_less (a * 256 + u) (b * 256 + v) q l (omega arith)
with_byte a b u v Greater p q small other h k l =
    let e : b < a = h in is_greater (a * 256 + u) (b * 256 + v) q l (omega arith)
with_byte a b u v Equal Less q small other h k l =
    let e : a ≡ b = h in let f : u < v = k in is_less (a * 256 + u) (b * 256 + v) q l (omega arith)
with_byte a b u v Equal Greater q small other h k l =
    let e : a ≡ b = h in let f : v < u = k in is_greater (a * 256 + u) (b * 256 + v) q l (omega arith)
with_byte a b u v Equal Equal Less small other h k l =
    let e : a ≡ b = h in let f : u ≡ v = k in let g : a * 256 + u < b * 256 + v = l in absurd (omega arith)
with_byte a b u v Equal Equal Equal small other h k l = refl
with_byte a b u v Equal Equal Greater small other h k l =
    let e : a ≡ b = h in let f : u ≡ v = k in let g : b * 256 + v < a * 256 + u = l in absurd (omega arith)

one_more : (a b u v : ℕ) → u < 256 → v < 256 → nat_cmp (a * 256 + u) (b * 256 + v)
    ≡ ordering_then (nat_cmp a b) (nat_cmp u v)
one_more a b u v small other =
    with_byte a b u v (nat_cmp a b) (nat_cmp u v) (nat_cmp (a * 256 + u) (b * 256 + v)) small other
    (ranked a b (nat_cmp a b) refl) (ranked u v (nat_cmp u v) refl)
    (ranked (a * 256 + u) (b * 256 + v) (nat_cmp (a * 256 + u) (b * 256 + v)) refl)

-- the number that bytes spell after the number n

abbrev spelled : ℕ → List ℕ → ℕ
spelled n [] = n
spelled n (b ∷ bs) = spelled (n * 256 + b) bs

in_order : (us vs : List ℕ) (a b : ℕ) → length us ≡ length vs → Bytes us → Bytes vs
    → nat_cmp (spelled a us) (spelled b vs) ≡ ordering_then (nat_cmp a b) (slice_cmp nat_cmp us vs)
in_order [] [] a b l s t = then_end (nat_cmp a b)
in_order [] (v ∷ vs) a b l s t = absurd (omega arith)
in_order (u ∷ us) [] a b l s t = absurd (omega arith)
in_order (u ∷ us) (v ∷ vs) a b l s t =
    in_order us vs (a * 256 + u) (b * 256 + v) (omega arith) (λ i. s (suc i)) (λ i. t (suc i))
    ∙ ap (λ (o : Ordering). ordering_then o (slice_cmp nat_cmp us vs)) (one_more a b u v (s 0) (t 0))
    ∙ then_again (nat_cmp a b) (nat_cmp u v) (slice_cmp nat_cmp us vs)

of_eight : (bs : List ℕ) → length bs ≡ 8 → from_be_bytes w64 bs ≡ spelled 0 bs
of_eight [] l = absurd (omega arith)
of_eight (a ∷ []) l = absurd (omega arith)
of_eight (a ∷ b ∷ []) l = absurd (omega arith)
of_eight (a ∷ b ∷ c ∷ []) l = absurd (omega arith)
of_eight (a ∷ b ∷ c ∷ d ∷ []) l = absurd (omega arith)
of_eight (a ∷ b ∷ c ∷ d ∷ e ∷ []) l = absurd (omega arith)
of_eight (a ∷ b ∷ c ∷ d ∷ e ∷ f ∷ []) l = absurd (omega arith)
of_eight (a ∷ b ∷ c ∷ d ∷ e ∷ f ∷ g ∷ []) l = absurd (omega arith)
of_eight (a ∷ b ∷ c ∷ d ∷ e ∷ f ∷ g ∷ h ∷ []) l = omega arith
of_eight (a ∷ b ∷ c ∷ d ∷ e ∷ f ∷ g ∷ h ∷ i ∷ bs) l = absurd (omega arith)

half : (us vs : List ℕ) → length us ≡ 8 → length vs ≡ 8 → Bytes us → Bytes vs
    → nat_cmp (from_be_bytes w64 us) (from_be_bytes w64 vs) ≡ slice_cmp nat_cmp us vs
half us vs l m s t =
    ap (λ (n : ℕ). nat_cmp n (from_be_bytes w64 vs)) (of_eight us l)
    ∙ ap (nat_cmp (spelled 0 us)) (of_eight vs m)
    ∙ in_order us vs 0 0 (l ∙ sym m) s t

-- lists that are compared in two parts

in_parts : (n : ℕ) (xs ys : List ℕ) → n ≤ length xs → n ≤ length ys
    → ordering_then (slice_cmp nat_cmp (take n xs) (take n ys)) (slice_cmp nat_cmp (drop n xs) (drop n ys))
    ≡ slice_cmp nat_cmp xs ys
in_parts zero xs ys l m = refl
in_parts (suc n) [] ys l m = absurd (omega arith)
in_parts (suc n) (x ∷ xs) [] l m = absurd (omega arith)
in_parts (suc n) (x ∷ xs) (y ∷ ys) l m =
    then_again (nat_cmp x y) (slice_cmp nat_cmp (take n xs) (take n ys)) (slice_cmp nat_cmp (drop n xs) (drop n ys))
    ∙ ap (ordering_then (nat_cmp x y)) (in_parts n xs ys (omega arith) (omega arith))

-- The order of two keys, and whether they are the same, from the numbers that their halves spell.

high : (xs ys : List ℕ) → length xs ≡ 16 → length ys ≡ 16 → Bytes (take 8 xs) → Bytes (take 8 ys)
    → nat_cmp (from_be_bytes w64 (take 8 xs)) (from_be_bytes w64 (take 8 ys))
    ≡ slice_cmp nat_cmp (take 8 xs) (take 8 ys)
high xs ys l m s u =
    half (take 8 xs) (take 8 ys) (omega (arith, length-take 8 xs)) (omega (arith, length-take 8 ys)) s u

low : (xs ys : List ℕ) → length xs ≡ 16 → length ys ≡ 16 → Bytes (drop 8 xs) → Bytes (drop 8 ys)
    → nat_cmp (from_be_bytes w64 (drop 8 xs)) (from_be_bytes w64 (drop 8 ys))
    ≡ slice_cmp nat_cmp (drop 8 xs) (drop 8 ys)
low xs ys l m t v =
    half (drop 8 xs) (drop 8 ys) (omega (arith, length-drop 8 xs)) (omega (arith, length-drop 8 ys)) t v

pub order_by_halves : (xs ys : List ℕ) → length xs ≡ 16 → length ys ≡ 16 → Bytes (take 8 xs) → Bytes (drop 8 xs)
    → Bytes (take 8 ys) → Bytes (drop 8 ys)
    → ordering_then (nat_cmp (from_be_bytes w64 (take 8 xs)) (from_be_bytes w64 (take 8 ys)))
    (nat_cmp (from_be_bytes w64 (drop 8 xs)) (from_be_bytes w64 (drop 8 ys))) ≡ slice_cmp nat_cmp xs ys
order_by_halves xs ys l m s t u v =
    ap (λ (o : Ordering). ordering_then o (nat_cmp (from_be_bytes w64 (drop 8 xs)) (from_be_bytes w64 (drop 8 ys))))
    (high xs ys l m s u)
    ∙ ap (ordering_then (slice_cmp nat_cmp (take 8 xs) (take 8 ys))) (low xs ys l m t v)
    ∙ in_parts 8 xs ys (omega arith) (omega arith)

pub same_by_halves : (xs ys : List ℕ) → length xs ≡ 16 → length ys ≡ 16 → Bytes (take 8 xs) → Bytes (drop 8 xs)
    → Bytes (take 8 ys) → Bytes (drop 8 ys)
    → (nat_eq (from_be_bytes w64 (take 8 xs)) (from_be_bytes w64 (take 8 ys))
    && nat_eq (from_be_bytes w64 (drop 8 xs)) (from_be_bytes w64 (drop 8 ys))) ≡ pointwise nat_eq xs ys
same_by_halves xs ys l m s t u v =
    ap (λ (b : Bool). b && nat_eq (from_be_bytes w64 (drop 8 xs)) (from_be_bytes w64 (drop 8 ys)))
    (unsigned_ties (from_be_bytes w64 (take 8 xs)) (from_be_bytes w64 (take 8 ys)))
    ∙ ap (λ (b : Bool). is_eq (nat_cmp (from_be_bytes w64 (take 8 xs)) (from_be_bytes w64 (take 8 ys))) && b)
    (unsigned_ties (from_be_bytes w64 (drop 8 xs)) (from_be_bytes w64 (drop 8 ys)))
    ∙ sym (then_equal (nat_cmp (from_be_bytes w64 (take 8 xs)) (from_be_bytes w64 (take 8 ys)))
    (nat_cmp (from_be_bytes w64 (drop 8 xs)) (from_be_bytes w64 (drop 8 ys))))
    ∙ ap is_eq (order_by_halves xs ys l m s t u v)
    ∙ sym (texts_ties xs ys)
