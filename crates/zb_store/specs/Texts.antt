-- How a fault of a store is printed.
use Rattle.std.specs.Prelude.{List, ℕ, ◌++◌, codes, decimal}
use Rattle.zb_store.specs.declared.fault.StoreFault.{StoreFault}
use Rattle.zb_store.specs.declared.fault.StoreFault.TheVariants.{Disk, NoRecord, TooLarge, NoMemory, Worn}

abbrev pub fault_text : StoreFault → List ℕ
fault_text Disk = codes "the disk failed"
fault_text NoRecord = codes "no record stands on the disk"
fault_text (TooLarge len) = decimal len ++ codes " bytes are too many"
fault_text NoMemory = codes "no memory"
fault_text Worn = codes "the last generation is used up"
