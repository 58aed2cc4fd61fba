-- The disk and the sink of a run, as definitions see them.
use Rattle.std.specs.Prelude.{ℕ, List, Option}
use Rattle.zb_disk.specs.View.{Telling, View}

-- what definitions have of a disk and a sink: their ghost members
pub record Outside (D W : Type 0) : Type 1 where
  pub tells : Telling
  pub state : D → View
  pub taken : W → Option (List ℕ)
  pub faults : W → ℕ

-- the ghost members of a disk and a sink, as such
abbrev pub outside : {D W : Type 0} → Telling → (D → View) → (W → Option (List ℕ)) → (W → ℕ) → Outside D W
outside tells state taken faults = record { tells = tells; state = state; taken = taken; faults = faults }
