-- Two words are equal where their bytes are.
use Rattle.std.proofs.Common.{◌≡◌, ℕ, zero, suc, ◌<◌, Bool, true, false, List, [], ◌∷◌, ◌∙◌, eqb, eqb-true, refl, sym, ap, get_or, length, take, arith}
use Rattle.std.proofs.lemmas.Bool.{eqb-false}
use Rattle.std.proofs.lemmas.Nat.{be_bytes_4}
use Rattle.std.proofs.lemmas.Slice.Eq.{bytes_eq-Decides}
use Rattle.std.specs.Int.{w32, from_be_bytes, to_be_bytes}
use Rattle.std.specs.Str.{bytes_eq}

-- The first four bytes of a list, one by one.
pub first_four : (xs : List ℕ) → length xs ≡ 16
    → get_or xs 0 0 ∷ get_or xs 1 0 ∷ get_or xs 2 0 ∷ get_or xs 3 0 ∷ [] ≡ take 4 xs
first_four (a ∷ b ∷ c ∷ d ∷ xs) h = refl
first_four [] h = absurd (omega arith)
first_four (a ∷ []) h = absurd (omega arith)
first_four (a ∷ b ∷ []) h = absurd (omega arith)
first_four (a ∷ b ∷ c ∷ []) h = absurd (omega arith)

pub four_below : (a b c d : ℕ) → a < 256 → b < 256 → c < 256 → d < 256
    → (i : ℕ) → get_or (a ∷ b ∷ c ∷ d ∷ []) i 0 < 256
four_below a b c d p q r s zero = p
four_below a b c d p q r s (suc zero) = q
four_below a b c d p q r s (suc (suc zero)) = r
four_below a b c d p q r s (suc (suc (suc zero))) = s
four_below a b c d p q r s (suc (suc (suc (suc i)))) = omega arith

pub words_equal : (xs ys : List ℕ) (p q : ℕ) → length xs ≡ 4 → length ys ≡ 4 → ((i : ℕ) → get_or xs i 0 < 256)
    → ((i : ℕ) → get_or ys i 0 < 256) → p ≡ from_be_bytes w32 xs → q ≡ from_be_bytes w32 ys
    → eqb p q ≡ bytes_eq xs ys
words_equal xs ys p q l m f g d e = by (eqb p q) refl (bytes_eq xs ys) refl
  where
    by : (t : Bool) → eqb p q ≡ t → (u : Bool) → bytes_eq xs ys ≡ u → t ≡ u
    by true h true k = refl
    by false h false k = refl
    by true h false k =
        let same : xs ≡ ys =
        sym (be_bytes_4 xs p l f d) ∙ ap (to_be_bytes w32) (eqb-true p q h) ∙ be_bytes_4 ys q m g e in
        sym ((bytes_eq-Decides xs ys).1 same) ∙ k
    by false h true k =
        absurd (eqb-false p q h (d ∙ ap (from_be_bytes w32) ((bytes_eq-Decides xs ys).0 k) ∙ sym e))
