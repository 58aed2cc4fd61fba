-- What a call that writes to a sink and allocates memory says about the sink's faults.
use Rattle.std.specs.Prelude.{ℕ, Result, Ok, Err}
use Rattle.zb_base.specs.Outside.{Rose, Unrisen}
use Rattle.zb_base.specs.declared.fault.Failed.{Failed}
use Rattle.zb_base.specs.declared.fault.OrMemory.{OrMemory}
use Rattle.zb_base.specs.declared.fault.OrMemory.TheVariants as error

-- If the call failed because of the sink, the count of faults rose; else the count is unchanged.
abbrev pub IsCause : ℕ → ℕ → Result Unit (OrMemory Failed) → Type 0
IsCause before now (Ok _) = Unrisen before now
IsCause before now (Err (error.Fault _)) = Rose before now
IsCause before now (Err error.NoMemory) = Unrisen before now
