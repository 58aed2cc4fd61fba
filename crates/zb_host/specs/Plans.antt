-- What a host asks of a core, and of its faults.
use Rattle.std.specs.Prelude.{ℕ, ◌≡◌, List}
use Rattle.zb_base.specs.declared.fault.OrMemory.{OrMemory}
use Rattle.zb_base.specs.declared.fault.OrMemory.TheVariants.{Fault, NoMemory}
use Rattle.zb_node_types.specs.declared.fault.KeyError.{KeyError}
use Rattle.zb_node_types.specs.declared.fault.KeyError.TheVariants.{KeyOld, KeysFull, RowsFull, KeyInUse, NoRow, WrongHash, BadRecord}

-- the record of the core that a record and payloads give, where they give one, and the place of the fault where not
pub data Restored : Type 0 where
  gives : List ℕ → Restored
  bad : ℕ → Restored

-- of a core that is made: bad bytes, at their place, or out of memory, and no other fault
abbrev pub IsRestoreFault : Restored → OrMemory KeyError → Type 0
IsRestoreFault r (Fault (KeyOld place)) = ⊥
IsRestoreFault r (Fault KeysFull) = ⊥
IsRestoreFault r (Fault RowsFull) = ⊥
IsRestoreFault r (Fault (KeyInUse partner)) = ⊥
IsRestoreFault r (Fault NoRow) = ⊥
IsRestoreFault r (Fault WrongHash) = ⊥
IsRestoreFault r (Fault (BadRecord at)) = r ≡ bad at
IsRestoreFault r NoMemory = Unit {0}
