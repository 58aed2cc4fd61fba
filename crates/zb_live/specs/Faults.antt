-- What ends a session before its input does, and how it is printed.
use Rattle.std.specs.Prelude.{ℕ, ◌++◌, List, codes, decimal}
use Rattle.zb_centre_store.specs.declared.fault.AdminFault.{AdminFault}
use Rattle.zb_centre_store.specs.declared.fault.AdminFault.TheVariants as store
use Rattle.zb_live.specs.declared.fault.LiveFault.{LiveFault}
use Rattle.zb_live.specs.declared.fault.LiveFault.TheVariants.{Read, TooLong, Write, Disk, NoStore, BadStore, Worn, NoMemory}

-- a fault of a line
abbrev pub fault_of : AdminFault → LiveFault
fault_of store.Disk = Disk
fault_of store.NoStore = NoStore
fault_of (store.BadStore at) = BadStore at
fault_of store.Worn = Worn
fault_of store.Write = Write
fault_of store.NoMemory = NoMemory

abbrev pub fault_text : LiveFault → List ℕ
fault_text Read = codes "read fault"
fault_text TooLong = codes "too long 1048576"
fault_text Write = codes "write fault"
fault_text Disk = codes "store fault"
fault_text NoStore = codes "no store"
fault_text (BadStore at) = codes "bad store " ++ decimal at
fault_text Worn = codes "worn"
fault_text NoMemory = codes "no memory"
