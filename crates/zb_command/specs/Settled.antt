-- The status that the input and the store alone give, where nothing fails.
use Rattle.std.specs.Prelude.{◌≡◌, ◌<◌, ◌≤◌, length, Ok, Err, ⊤}
use Rattle.zb_admin.specs.Serving.{IsFound, IsWornIn, IsWornOver, Outside}
use Rattle.zb_audit.specs.declared.fault.Verdict.{Verdict}
use Rattle.zb_centre_store.specs.Standing.{found_on}
use Rattle.zb_centre_store.specs.declared.fault.AdminFault.TheVariants as fault
use Rattle.zb_model.specs.Data.{Bytes}
use Rattle.zb_script.specs.Reading.{script_in}
use Rattle.zb_script.specs.Views.{script_of}
use Rattle.zb_script.specs.declared.script.Script.{Script}
use Rattle.zb_trace_read.specs.Faults.{IsFirstBad}
use Rattle.zb_command.specs.Auditing.{IsBrokenText, IsFaultIn, IsSoundText}
use Rattle.zb_command.specs.Serving.{IsNoScript}
use Rattle.zb_command.specs.declared.status.Cause.TheVariants as cause
use Rattle.zb_command.specs.declared.status.Status.{Status}
use Rattle.zb_command.specs.declared.status.Status.TheVariants as status
use Rattle.zb_base.specs.Limits.{longest_input}

-- Of `audit`: the input is too long, or that of a sound transcript, or its first bad line is no text of a line or
-- breaks a claim. Out of memory may come of any.
abbrev pub AuditGives : Bytes → Status → Type 0
AuditGives input status.Ok = IsFaultIn input ((v : Verdict) × IsSoundText input v)
AuditGives input status.Usage = ⊥
AuditGives input status.ReadFault = ⊥
AuditGives input status.WriteFault = ⊥
AuditGives input (status.Refused line c) = IsFaultIn input (IsFirstBad input line) × (c ≡ cause.Syntax)
AuditGives input status.NoMemory = ⊤
AuditGives input status.DiskFault = ⊥
AuditGives input status.NoStore = ⊥
AuditGives input (status.TooLong limit) = (limit ≡ longest_input) × (longest_input < length input)
AuditGives input (status.Broken line clause) = IsFaultIn input (IsBrokenText input line clause)
AuditGives input (status.BadStore at) = ⊥
AuditGives input status.Worn = ⊥

-- The input is a script, no longer than inputs may be.
abbrev pub IsScriptIn : Bytes → Type 0
IsScriptIn input = (length input ≤ longest_input) × ((script : Script) × (script_in input ≡ Ok (script_of script)))

-- So it is, and one of its commands had something to store.
abbrev pub IsWornScriptIn : {D W : Type 0} → Outside D W → Bytes → D → Type 0
IsWornScriptIn x input old = (length input ≤ longest_input)
    × ((script : Script) × (script_in input ≡ Ok (script_of script)) × IsWornIn x script old)

-- Of `admin`: the input is too long, or no script; or the store is no centre's; or the script is served. It isn't
-- served to its end where a command has something to store, for which the whole record has to be written, and there is
-- no further generation.
abbrev pub AdminGives : {D W : Type 0} → Outside D W → Bytes → D → D → Status → Type 0
AdminGives x input old new status.Ok = IsScriptIn input × IsFound x old
AdminGives x input old new status.Usage = ⊥
AdminGives x input old new status.ReadFault = ⊥
AdminGives x input old new status.WriteFault = ⊥
AdminGives x input old new (status.Refused line c) = IsNoScript input line c
AdminGives x input old new status.NoMemory = ⊤
AdminGives x input old new status.DiskFault = ⊥
AdminGives x input old new status.NoStore = IsScriptIn input × (found_on (x.state old).seen ≡ Err fault.NoStore)
AdminGives x input old new (status.TooLong limit) = longest_input < length input
AdminGives x input old new (status.Broken line clause) = ⊥
AdminGives x input old new (status.BadStore at) = IsScriptIn input
    × (found_on (x.state old).seen ≡ Err (fault.BadStore at))
AdminGives x input old new status.Worn = IsWornScriptIn x input old × IsFound x old × IsWornOver x old new
