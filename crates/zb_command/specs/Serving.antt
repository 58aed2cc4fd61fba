-- How `admin` ends.
use Rattle.std.specs.Prelude.{◌≡◌, ◌<◌, ◌≤◌, ◌⊎◌, ℕ, length, Option, IfSome, Ok, Err}
use Rattle.std.specs.Io.KnownBytes.{Keeps}
use Rattle.zb_admin.specs.Serving.{Ended, Outside, Serves}
use Rattle.zb_centre_store.specs.declared.fault.AdminFault.TheVariants as fault
use Rattle.zb_base.specs.Outside.{Rose}
use Rattle.zb_model.specs.Data.{Bytes}
use Rattle.zb_script.specs.Reading.{script_in}
use Rattle.zb_script.specs.Views.{script_of}
use Rattle.zb_script.specs.declared.error.ScriptError.{ScriptError}
use Rattle.zb_script.specs.declared.script.Script.{Script}
use Rattle.zb_command.specs.Statuses.{script_cause}
use Rattle.zb_command.specs.declared.status.Cause.{Cause}
use Rattle.zb_command.specs.declared.status.Status.{Status}
use Rattle.zb_command.specs.declared.status.Status.TheVariants as status
use Rattle.zb_base.specs.Limits.{longest_input}

-- The input is a script, no longer than inputs may be, and it was served so far over a store and a sink.
pub record IsServed {D W : Type 0} (x : Outside D W) (rest : Option Bytes) (old : D) (before : W) (result : Ended)
    (new : D) (after : W) : Type 0 where
  pub script : Script
  pub short : IfSome rest (λ input. length input ≤ longest_input)
  pub reads : IfSome rest (λ input. script_in input ≡ Ok (script_of script))
  pub serves : Serves x script old before result new after

-- Nothing was done.
abbrev pub IsIdle : {D W : Type 0} → D → W → D → W → Type 0
IsIdle old before new after = (new ≡ old) × (after ≡ before)

-- The input is no longer than inputs may be, and no script: its first bad line, and the first cause of that.
pub record IsNoScript (input : Bytes) (line : ℕ) (c : Cause) : Type 0 where
  pub error : ScriptError
  pub short : length input ≤ longest_input
  pub reads : script_in input ≡ Err error
  pub line_is : error.line ≡ line
  pub cause_is : script_cause error.cause ≡ c

-- By the status, and the bytes that the source had to come, where these are known.
abbrev pub Serviced : {D W : Type 0} → Outside D W → Status → Option Bytes → D → W → D → W → Type 0
Serviced x status.Ok rest old before new after = IsServed x rest old before (Ok tt) new after
Serviced x status.Usage rest old before new after = ⊥
Serviced x status.ReadFault rest old before new after = IsIdle old before new after
Serviced x status.WriteFault rest old before new after = IsServed x rest old before (Err fault.Write) new after
Serviced x (status.Refused line c) rest old before new after = IfSome rest (λ input. IsNoScript input line c)
    × IsIdle old before new after
Serviced x status.NoMemory rest old before new after = IsIdle old before new after
    ⊎ IsServed x rest old before (Err fault.NoMemory) new after
Serviced x status.DiskFault rest old before new after = IsServed x rest old before (Err fault.Disk) new after
Serviced x status.NoStore rest old before new after = IsServed x rest old before (Err fault.NoStore) new after
Serviced x (status.TooLong limit) rest old before new after = IfSome rest (λ input. longest_input < length input)
    × IsIdle old before new after
Serviced x (status.Broken line clause) rest old before new after = ⊥
Serviced x (status.BadStore at) rest old before new after = IsServed x rest old before (Err (fault.BadStore at)) new
    after
Serviced x status.Worn rest old before new after = IsServed x rest old before (Err fault.Worn) new after

-- What that says of the output alone.
abbrev pub ServesOut : Status → Option Bytes → Option Bytes → ℕ → ℕ → Type 0
ServesOut status.Ok before after old new = Unit {0}
ServesOut status.Usage before after old new = ⊥
ServesOut status.ReadFault before after old new = Keeps before after
ServesOut status.WriteFault before after old new = Rose old new
ServesOut (status.Refused line c) before after old new = Keeps before after
ServesOut status.NoMemory before after old new = Unit {0}
ServesOut status.DiskFault before after old new = Unit {0}
ServesOut status.NoStore before after old new = Unit {0}
ServesOut (status.TooLong limit) before after old new = (limit ≡ longest_input) × Keeps before after
ServesOut (status.Broken line clause) before after old new = ⊥
ServesOut (status.BadStore at) before after old new = Unit {0}
ServesOut status.Worn before after old new = Unit {0}
