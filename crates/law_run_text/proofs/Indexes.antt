-- Bytes by recursion and by their places.
use Rattle.std.proofs.Common.{ℕ, zero, suc, ◌<◌, List, [], ◌∷◌, slice_index, arith}
use Rattle.law_run_ranges.specs.Ranges.{AreBytes}

pub by_index : (xs : List ℕ) → AreBytes xs → (i : ℕ) → slice_index xs i < 256
by_index [] all i = omega arith
by_index (x ∷ xs) all zero = all.0
by_index (x ∷ xs) all (suc i) = by_index xs all.1 i

pub from_index : (xs : List ℕ) → ((i : ℕ) → slice_index xs i < 256) → AreBytes xs
from_index [] each = tt
from_index (x ∷ xs) each = (each 0, from_index xs (λ i. each (suc i)))
