-- When each fault of serving comes, and how it is printed.
use Rattle.std.specs.Prelude.{ℕ, ◌++◌, List, codes, decimal}
use Rattle.zb_centre_store.specs.declared.fault.AdminFault.{AdminFault}
use Rattle.zb_centre_store.specs.declared.fault.AdminFault.TheVariants.{Disk, NoStore, BadStore, Worn, Write, NoMemory}

abbrev pub fault_text : AdminFault → List ℕ
fault_text Disk = codes "store fault"
fault_text NoStore = codes "no store"
fault_text (BadStore at) = codes "bad store " ++ decimal at
fault_text Worn = codes "worn"
fault_text Write = codes "write fault"
fault_text NoMemory = codes "no memory"
