-- Consecutive shares of work.
use Rattle.std.specs.Prelude.{◌≡◌, ℕ, ◌+◌, ◌-◌, ◌<◌, min, List, [], ◌∷◌}
use Rattle.zb_parallel.specs.declared.share.Share.{Share}

-- The shares of the remaining items, numbered from `number`, with places from `first`. Each has `size` items, except
-- the last, which has the remainder. If no items remain there are no shares.
abbrev pub AreShares : ℕ → ℕ → ℕ → ℕ → List Share → Type 0
AreShares size number first left [] = left ≡ 0
AreShares size number first left (share ∷ more) =
    (share.number ≡ number) × (share.first ≡ first) × (0 < left) × (share.count ≡ min size left)
    × AreShares size (number + 1) (first + min size left) (left - min size left) more
