-- Vectors of sixteen bytes whose lanes are a function of the lanes of another vector.
use Rattle.std.proofs.Common.{◌≡◌, ℕ, zero, suc, ◌+◌, ◌*◌, ◌/◌, ◌<◌, ◌≤◌, Bool, true, false, cond, T, ◌&&◌, ◌||◌, leb, ltb, eqb, eqb→eq, List, [], ◌∷◌, refl, sym, subst, inl, inr, get_or, length, map, w8, Fits, arith}
use Rattle.std.proofs.lemmas.Bool.{cases_eq}
use Rattle.std.proofs.lemmas.List.{length-map}
use Rattle.std.proofs.lemmas.Simd.{swz_l, SwzOk, SwzOk-from_Each1}
use Rattle.std.specs.Simd.Lanes.{Each1}
use Rattle.zb_aes.specs.Pairs.{found}

-- What `c.fits-..` says of a vector of sixteen bytes.
abbrev pub Fit : List ℕ → Type 0
Fit bytes = (length bytes ≡ 16) × Each1 (Fits w8) bytes

-- ---- facts of all bytes, by computation
abbrev pub for_all : (ℕ → Bool) → ℕ → Bool
for_all p zero = true
for_all p (suc n) = p n && for_all p n

both : (a b : Bool) → T (a && b) → T a × T b
both true b h = (tt, h)
both false b h = absurd h

pub for_all-at : (p : ℕ → Bool) (n : ℕ) → T (for_all p n) → (i : ℕ) → i < n → T (p i)
for_all-at p zero h i l = absurd (omega arith)
for_all-at p (suc n) h i l =
    let parts = both (p n) (for_all p n) h in
    elim (cases_eq i n) [
      | inl same ↦ subst (λ k. T (p k)) (sym same) parts.0
      | inr other ↦ for_all-at p n parts.1 i (omega arith)
    ]

-- Two functions that agree on all bytes, by computation.
pub map-agree : (f g : ℕ → ℕ) → T (for_all (λ b. eqb (f b) (g b)) 256) → (bytes : List ℕ) → Each1 (Fits w8) bytes
    → map f bytes ≡ map g bytes
map-agree f g same [] h = refl
map-agree f g same (b ∷ bytes) h =
    let first : f b ≡ g b = eqb→eq _ _ (for_all-at (λ b. eqb (f b) (g b)) 256 same b h.0.fits) in
    rw (first, map-agree f g same bytes h.1) refl

-- ---- shuffles
abbrev pub is_place : ℕ → Bool
is_place place = leb 128 place || ltb place 16

places-are : (g : ℕ → ℕ) → T (for_all (λ b. is_place (g b)) 256) → (bytes : List ℕ) → Each1 (Fits w8) bytes
    → Each1 (λ place. T (is_place place)) (map g bytes)
places-are g all [] h = tt
places-are g all (b ∷ bytes) h = (for_all-at (λ b. is_place (g b)) 256 all b h.0.fits, places-are g all bytes h.1)

pub swizzle-ok : (g : ℕ → ℕ) (bytes places : List ℕ) → Fit bytes → places ≡ map g bytes
    → T (for_all (λ b. is_place (g b)) 256) → SwzOk w8 16 16 0 places
swizzle-ok g bytes places fit e all =
    rw e (SwzOk-from_Each1 w8 16 1 16 0 (map g bytes) refl (omega (arith, length-map bytes g, fit.0))
    (places-are g all bytes fit.1))

one-found : (table : List ℕ) (i place : ℕ) → i < 16
    → cond (leb 128 place) 0 (get_or table (16 * (i / 16) + place) 0) ≡ found table place
unfolding found
one-found table i place h = let e : 16 * (i / 16) + place ≡ place = omega arith in rw e refl

found-from : (table : List ℕ) (g : ℕ → ℕ) (i : ℕ) (bytes : List ℕ) → i + length bytes ≤ 16
    → swz_l w8 16 table i (map g bytes) ≡ map (λ b. found table (g b)) bytes
found-from table g i [] h = refl
found-from table g i (b ∷ bytes) h =
    let first : cond (leb 128 (g b)) 0 (get_or table (16 * (i / 16) + g b) 0) ≡ found table (g b) =
    one-found table i (g b) (omega arith) in
    rw (first, found-from table g (suc i) bytes (omega arith)) refl

pub swizzled : (table : List ℕ) (g : ℕ → ℕ) (bytes places : List ℕ) → Fit bytes → places ≡ map g bytes
    → swz_l w8 16 table 0 places ≡ map (λ b. found table (g b)) bytes
swizzled table g bytes places fit e = rw e (found-from table g 0 bytes (omega (arith, fit.0)))
