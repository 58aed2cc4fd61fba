-- How the faults of a host are printed.
use Rattle.std.specs.Prelude.{List, ℕ, ◌++◌, codes, decimal}
use Rattle.zb_host.specs.declared.fault.HostFault.{HostFault}
use Rattle.zb_host.specs.declared.fault.HostFault.TheVariants as host
use Rattle.zb_host.specs.declared.fault.RecordFault.{RecordFault}
use Rattle.zb_host.specs.declared.fault.RecordFault.TheVariants.{Disk, NoRecord, BadRecord, Worn}

abbrev pub record_text : RecordFault → List ℕ
record_text Disk = codes "the disk failed"
record_text NoRecord = codes "no record stands on the disk"
record_text (BadRecord at) = codes "no record of this node, at byte " ++ decimal at
record_text Worn = codes "the last generation is used up"

abbrev pub fault_text : HostFault → List ℕ
fault_text (host.Disk changes) = codes "the disk failed"
fault_text host.Worn = codes "the last generation is used up"
