-- Ranges of numbers.
use Rattle.std.proofs.Common.{◌≡◌, ℕ, ◌+◌, zero, suc, List, [], ◌∷◌, ◌++◌, refl, arith, ap}
use Rattle.std.specs.List.{range_with_len}

-- a range is its prefix and the range after that
pub range_split : (k m a : ℕ) → range_with_len a (k + m) ≡ range_with_len a k ++ range_with_len (a + k) m
range_split zero m a =
    let all : 0 + m ≡ m = omega arith in let same : a + 0 ≡ a = omega arith in rw (all, same) refl
range_split (suc k) m a =
    let more : suc k + m ≡ suc (k + m) = omega arith in let same : a + suc k ≡ a + 1 + k = omega arith in
    rw (more, same) (ap (λ (rest : List ℕ). a ∷ rest) (range_split k m (a + 1)))

-- a range with one more number
pub range_more : (a k : ℕ) → range_with_len a (k + 1) ≡ range_with_len a k ++ (a + k) ∷ []
range_more a k = range_split k 1 a
