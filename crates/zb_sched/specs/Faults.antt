-- The fault of a sink in the result of a call that may also run out of memory.
use Rattle.std.specs.Prelude.{Result, Ok, Err}
use Rattle.zb_base.specs.declared.fault.Failed.{Failed}
use Rattle.zb_base.specs.declared.fault.OrMemory.{OrMemory}
use Rattle.zb_base.specs.declared.fault.OrMemory.TheVariants.{Fault, NoMemory}

-- Whether the sink failed. Out of memory is no fault of the sink.
abbrev pub write_fault : Result Unit (OrMemory Failed) → Result Unit Failed
write_fault (Ok done) = Ok done
write_fault (Err (Fault failed)) = Err failed
write_fault (Err NoMemory) = Ok tt
