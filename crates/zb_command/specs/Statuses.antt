-- How the program ends: the number and the text of each status.
use Rattle.std.specs.Prelude.{ℕ, ◌++◌, [], ◌∷◌, codes, decimal, Result, Ok, Err}
use Rattle.zb_centre_store.specs.declared.fault.AdminFault.{AdminFault}
use Rattle.zb_centre_store.specs.declared.fault.AdminFault.TheVariants as served
use Rattle.zb_capture.specs.declared.fault.CaptureCause.{CaptureCause}
use Rattle.zb_capture.specs.declared.fault.CaptureCause.TheVariants as capture
use Rattle.zb_install.specs.declared.code_error.CodeError.{CodeError}
use Rattle.zb_install.specs.declared.code_error.CodeError.TheVariants as code
use Rattle.zb_model.specs.Data.{Bytes}
use Rattle.zb_pcap.specs.declared.fault.PcapCause.{PcapCause}
use Rattle.zb_pcap.specs.declared.fault.PcapCause.TheVariants as pcap
use Rattle.zb_sched.specs.declared.error.SchedCause.{SchedCause}
use Rattle.zb_sched.specs.declared.error.SchedCause.TheVariants as fault
use Rattle.zb_script.specs.declared.error.ScriptCause.{ScriptCause}
use Rattle.zb_script.specs.declared.error.ScriptCause.TheVariants as script
use Rattle.zb_text.specs.Fields.{short_text}
use Rattle.zb_text.specs.Words.{then}
use Rattle.zb_command.specs.declared.status.Status.{Status}
use Rattle.zb_command.specs.declared.status.Status.TheVariants as status
use Rattle.zb_command.specs.declared.status.Cause.{Cause}
use Rattle.zb_command.specs.declared.status.Cause.TheVariants as cause

abbrev pub number_of : Status → ℕ
number_of status.Ok = 0
number_of status.Usage = 2
number_of status.ReadFault = 3
number_of status.WriteFault = 4
number_of (status.Refused line c) = 5
number_of status.NoMemory = 6
number_of status.DiskFault = 7
number_of status.NoStore = 8
number_of (status.TooLong limit) = 9
number_of (status.Broken line clause) = 10
number_of (status.BadStore at) = 11
number_of status.Worn = 12

abbrev pub cause_text : Cause → Bytes
cause_text cause.Syntax = then (codes "syntax")
cause_text cause.DuplicateNode = then (codes "duplicate-node")
cause_text cause.DuplicateCode = then (codes "duplicate-code")
cause_text cause.DrawRepeated = then (codes "draw-repeated")
cause_text cause.UnknownNode = then (codes "unknown-node")
cause_text cause.NoCentre = then (codes "no-centre")
cause_text cause.BadCode = then (codes "bad-code")
cause_text cause.Block = then (codes "block")
cause_text cause.TooMany = then (codes "too-many")
cause_text cause.AddressTaken = then (codes "address-taken")
cause_text cause.Backup = then (codes "backup")
cause_text cause.Magic = then (codes "magic")
cause_text cause.Version = then (codes "version")
cause_text cause.Link = then (codes "link")
cause_text cause.Cut = then (codes "cut")
cause_text (cause.NotHex at) = then (codes "not-hex") ++ then (decimal at)
cause_text (cause.Length len) = then (codes "length") ++ then (decimal len)
cause_text (cause.Crc kept found) = then (codes "crc") ++ then (short_text kept) ++ then (short_text found)

abbrev pub text_of : Status → Bytes
text_of status.Ok = []
text_of status.Usage = codes "usage"
text_of status.ReadFault = codes "read fault"
text_of status.WriteFault = []
text_of (status.Refused line c) = codes "refused" ++ then (decimal line) ++ cause_text c
text_of status.NoMemory = codes "no memory"
text_of status.DiskFault = codes "store fault"
text_of status.NoStore = codes "no store"
text_of (status.TooLong limit) = codes "too long" ++ then (decimal limit)
text_of (status.Broken line clause) = codes "broken" ++ then (decimal line) ++ then (decimal clause)
text_of (status.BadStore at) = codes "bad store" ++ then (decimal at)
text_of status.Worn = codes "worn"

-- what is said of it on standard output: its text with a line feed, or nothing
abbrev pub line_of : Bytes → Bytes
line_of [] = []
line_of (c ∷ text) = (c ∷ text) ++ 10 ∷ []

-- what is wrong with an install code
abbrev pub cause_of : CodeError → Cause
cause_of (code.NotHex at) = cause.NotHex at
cause_of (code.Length len) = cause.Length len
cause_of (code.Crc kept found) = cause.Crc kept found

-- what is wrong with a line of a schedule
abbrev pub schedule_cause : SchedCause → Cause
schedule_cause fault.Syntax = cause.Syntax
schedule_cause fault.DuplicateNode = cause.DuplicateNode
schedule_cause fault.DuplicateCode = cause.DuplicateCode
schedule_cause fault.DrawRepeated = cause.DrawRepeated
schedule_cause fault.UnknownNode = cause.UnknownNode
schedule_cause fault.NoCentre = cause.NoCentre
schedule_cause fault.BadCode = cause.BadCode
schedule_cause fault.Block = cause.Block
schedule_cause fault.TooMany = cause.TooMany

-- what is wrong with a line of a capture
abbrev pub capture_cause : CaptureCause → Cause
capture_cause capture.Syntax = cause.Syntax
capture_cause capture.BadCode = cause.BadCode
capture_cause capture.TooMany = cause.TooMany
capture_cause capture.AddressTaken = cause.AddressTaken

-- what is wrong with a capture file
abbrev pub pcap_cause : PcapCause → Cause
pcap_cause pcap.Magic = cause.Magic
pcap_cause pcap.Version = cause.Version
pcap_cause pcap.Link = cause.Link
pcap_cause pcap.Cut = cause.Cut
pcap_cause pcap.TooMany = cause.TooMany

-- what is wrong with a line of a script
abbrev pub script_cause : ScriptCause → Cause
script_cause script.Syntax = cause.Syntax
script_cause script.DuplicateNode = cause.DuplicateNode
script_cause script.Block = cause.Block
script_cause script.UnknownNode = cause.UnknownNode
script_cause script.BadCode = cause.BadCode
script_cause script.Backup = cause.Backup
script_cause script.TooMany = cause.TooMany
script_cause script.NoCentre = cause.NoCentre

-- how serving a script ends
abbrev pub served_status : Result (Unit {0}) AdminFault → Status
served_status (Ok done) = status.Ok
served_status (Err served.Disk) = status.DiskFault
served_status (Err served.NoStore) = status.NoStore
served_status (Err (served.BadStore at)) = status.BadStore at
served_status (Err served.Worn) = status.Worn
served_status (Err served.Write) = status.WriteFault
served_status (Err served.NoMemory) = status.NoMemory
