-- That a centre which goes on from a backup seals nothing again under its keys. Here is which counters the lost store
-- may have used, what the centre lives through since, and what it seals.
use Rattle.std.specs.Prelude.{ℕ, ◌≡◌, ◌+◌, ◌≤◌, List, [], ◌∷◌, Some, ⊤}
use Rattle.std.specs.List.{AllByRecursion}
use Rattle.zb_model.specs.Answer.{answer, answered}
use Rattle.zb_model.specs.Data.{Bytes, Layer, Nwk, Aps, Task, Term}
use Rattle.zb_model.specs.Rules.{Setting}
use Rattle.zb_model.specs.State.{NetKey, NodeState, after_boot, greatest_counter, net_of, shown, stored_limit}
use Rattle.zb_model.specs.Tools.{Tools}
use Rattle.zb_centre_store.specs.Skipping.{counted_from}

-- A limit that is at most `by` above another. No limit is above the greatest counter.
pub record IsAbove (by limit lost : ℕ) : Type 0 where
  pub within : lost ≤ limit + by
  pub greatest : lost ≤ greatest_counter

-- The limits of a store that was lost, later than a backup of it, are at most `by` above those of the backup. They are
-- that of APS, and that of each network key of the backup. A key that the backup has as never active counts from where
-- a skip starts it.
pub record HasUsed (by : ℕ) (backup lost : NodeState) : Type 0 where
  pub aps : IsAbove by backup.aps_limit lost.aps_limit
  pub nets : (key : Bytes) (r l : NetKey) → net_of key backup ≡ Some r → net_of key lost ≡ Some l
      → IsAbove by (counted_from (stored_limit Nwk backup) r) l.limit

-- What a centre lives through: events, and boots.
pub data Deed : Type 0 where
  handles : Task → Deed
  boots : Deed

abbrev pub after_deed : Tools → Setting → Deed → NodeState → NodeState
after_deed tools c (handles task) s = shown (answered (answer tools c s task) s)
after_deed tools c boots s = after_boot s

-- what a deed seals
abbrev pub seals_of : Tools → Setting → Deed → NodeState → List Term
seals_of tools c (handles task) s = (answer tools c s task).seals
seals_of tools c boots s = []

-- P holds of each term that is sealed
abbrev pub EachSeal : (Term → Type 0) → Tools → Setting → List Deed → NodeState → Type 0
EachSeal P tools c [] s = ⊤
EachSeal P tools c (d ∷ ds) s = AllByRecursion P (seals_of tools c d s)
    × EachSeal P tools c ds (after_deed tools c d s)

-- A counter that the lost store can't have used: not below its limit at APS, nor below that of a network key of the
-- backup.
abbrev pub IsUnusedAt : Layer → NodeState → NodeState → Bytes → ℕ → Type 0
IsUnusedAt Aps backup lost key counter = lost.aps_limit ≤ counter
IsUnusedAt Nwk backup lost key counter = (r l : NetKey) → net_of key backup ≡ Some r → net_of key lost ≡ Some l
    → l.limit ≤ counter

abbrev pub IsUnused : NodeState → NodeState → Term → Type 0
IsUnused backup lost t = IsUnusedAt t.layer backup lost t.base t.counter
