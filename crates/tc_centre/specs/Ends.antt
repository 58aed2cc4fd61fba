-- How the process ends after a session.
use Rattle.std.specs.Prelude.{if◌then◌else◌, Option, Some, None, Result, Ok, Err}
use Rattle.tc_centre.specs.declared.status.Status.{Status}
use Rattle.tc_centre.specs.declared.status.Status.TheVariants as status
use Rattle.zb_disk.specs.declared.file_fault.FileFault.{FileFault}
use Rattle.zb_live.specs.declared.fault.LiveFault.{LiveFault}
use Rattle.zb_live.specs.declared.fault.LiveFault.TheVariants as fault

-- How a process ends whose store failed: it is busy only if its file couldn't be opened because another process has it
-- open
abbrev pub store_status : Option FileFault → Status
store_status None = status.DiskFault
store_status (Some fault) = if fault.is_taken then status.Busy else status.DiskFault

-- How a process ends whose session came to this end, where this failed first on the store's file
abbrev pub status_after : Result (Unit {0}) LiveFault → Option FileFault → Status
status_after (Ok done) first = status.Ok
status_after (Err fault.Read) first = status.ReadFault
status_after (Err fault.Write) first = status.WriteFault
status_after (Err fault.NoMemory) first = status.NoMemory
status_after (Err fault.Disk) first = store_status first
status_after (Err fault.NoStore) first = status.NoStore
status_after (Err fault.TooLong) first = status.TooLong
status_after (Err (fault.BadStore at)) first = status.BadStore at
status_after (Err fault.Worn) first = status.Worn
