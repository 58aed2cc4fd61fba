-- How the process ends: as its run did, or because another process has the store.
use Rattle.std.specs.Prelude.{ℕ, if◌then◌else◌, codes, Option, Some, None}
use Rattle.zb_disk.specs.declared.file_fault.FileFault.{FileFault}
use Rattle.zb_model.specs.Data.{Bytes}
use Rattle.zb_command.specs.Statuses.{number_of, text_of}
use Rattle.zb_command.specs.declared.exit.ExitStatus.{ExitStatus}
use Rattle.zb_command.specs.declared.exit.ExitStatus.TheVariants.{Run, Busy}
use Rattle.zb_command.specs.declared.status.Status.{Status}
use Rattle.zb_command.specs.declared.status.Status.TheVariants.{DiskFault}

-- How a process ends whose store failed: it is busy only if its file couldn't be opened because another process has it
-- open.
abbrev pub store_exit : Option FileFault → ExitStatus
store_exit None = Run DiskFault
store_exit (Some fault) = if fault.is_taken then Busy else Run DiskFault

-- How a process ends whose run ended so, where this failed first on the store's file.
abbrev pub exit_after : Status → Option FileFault → ExitStatus
exit_after DiskFault first = store_exit first
exit_after status first = Run status

abbrev pub exit_number : ExitStatus → ℕ
exit_number (Run status) = number_of status
exit_number Busy = 13

abbrev pub exit_text : ExitStatus → Bytes
exit_text (Run status) = text_of status
exit_text Busy = codes "busy"
