-- How a fault of a capture file is printed: the number of the record and the word of the cause.
use Rattle.std.specs.Prelude.{List, ℕ, ◌++◌, codes, decimal}
use Rattle.zb_pcap.specs.declared.fault.PcapCause.{PcapCause}
use Rattle.zb_pcap.specs.declared.fault.PcapCause.TheVariants.{Magic, Version, Link, Cut, TooMany}
use Rattle.zb_pcap.specs.declared.fault.PcapError.{PcapError}

abbrev pub cause_text : PcapCause → List ℕ
cause_text Magic = codes "magic"
cause_text Version = codes "version"
cause_text Link = codes "link"
cause_text Cut = codes "cut"
cause_text TooMany = codes "too-many"

abbrev pub fault_text : PcapError → List ℕ
fault_text fault = decimal fault.place ++ codes " " ++ cause_text fault.cause
