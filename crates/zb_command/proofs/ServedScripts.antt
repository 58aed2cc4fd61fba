-- A script that was read whole and served, by the status of how that ended.
use Rattle.std.proofs.Common.{◌≡◌, ◌≤◌, Ok, Err, Option, None, Some, IfSome, inr, length, ◌∙◌, subst}
use Rattle.zb_admin.specs.Serving.{Ended, Outside, Serves}
use Rattle.zb_centre_store.specs.declared.fault.AdminFault.TheVariants as fault
use Rattle.zb_model.specs.Data.{Bytes}
use Rattle.zb_script.specs.Reading.{script_in}
use Rattle.zb_script.specs.Views.{script_of}
use Rattle.zb_script.specs.declared.script.Script.{Script}
use Rattle.zb_command.specs.Serving.{IsServed, Serviced}
use Rattle.zb_command.specs.Statuses.{served_status}
use Rattle.zb_base.specs.Limits.{longest_input}

short_of : (rest : Option Bytes) (bytes : Bytes) → IfSome rest (λ input. bytes ≡ input) → length bytes ≤ longest_input
    → IfSome rest (λ input. length input ≤ longest_input)
short_of None bytes whole few = tt
short_of (Some input) bytes whole few = subst (λ (l : Bytes). length l ≤ longest_input) whole few

reads_of : (rest : Option Bytes) (bytes read : Bytes) (script : Script) → IfSome rest (λ input. bytes ≡ input)
    → read ≡ bytes → script_in read ≡ Ok (script_of script)
    → IfSome rest (λ input. script_in input ≡ Ok (script_of script))
reads_of None bytes read script whole same reads = tt
reads_of (Some input) bytes read script whole same reads =
    subst (λ (l : Bytes). script_in l ≡ Ok (script_of script)) (same ∙ whole) reads

-- an input that the source tells was read whole, and its script was served
pub served_of : {D W : Type 0} (x : Outside D W) (rest : Option Bytes) (bytes read : Bytes) (script : Script) (old : D)
    (before : W) (result : Ended) (new : D) (after : W)
    → IfSome rest (λ input. bytes ≡ input) → length bytes ≤ longest_input → read ≡ bytes
    → script_in read ≡ Ok (script_of script) → Serves x script old before result new after
    → IsServed x rest old before result new after
served_of x rest bytes read script old before result new after whole few same reads serves = record {
  script = script;
  short = short_of rest bytes whole few;
  reads = reads_of rest bytes read script whole same reads;
  serves = serves;
}

-- what its status says
pub status_says : {D W : Type 0} (x : Outside D W) (rest : Option Bytes) (old : D) (before : W) (result : Ended)
    (new : D) (after : W) → IsServed x rest old before result new after
    → Serviced x (served_status result) rest old before new after
status_says x rest old before (Ok tt) new after one = one
status_says x rest old before (Err fault.Disk) new after one = one
status_says x rest old before (Err fault.NoStore) new after one = one
status_says x rest old before (Err (fault.BadStore at)) new after one = one
status_says x rest old before (Err fault.Worn) new after one = one
status_says x rest old before (Err fault.Write) new after one = one
status_says x rest old before (Err fault.NoMemory) new after one = inr one
