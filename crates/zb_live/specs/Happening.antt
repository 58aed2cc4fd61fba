-- What the calls for an event leave of the disk, of the centre and of the page.
use Rattle.std.specs.Prelude.{ℕ, ◌≡◌, List, Some, Result, IfOk, OnOk, Bool, is_some}
use Rattle.zb_base.specs.Outside.{Unrisen}
use Rattle.zb_centre_store.specs.Calls.{IsEventFault, tables_after}
use Rattle.zb_centre_store.specs.Standing.{IsUp, StandsAsEither}
use Rattle.zb_centre_store.specs.declared.fault.AdminFault.{AdminFault}
use Rattle.zb_centre_store.specs.declared.fault.AdminFault.TheVariants.{NoMemory}
use Rattle.zb_disk.specs.View.{Telling, View, LeavesOnly}
use Rattle.zb_host.specs.Hosts.{Hosted}
use Rattle.zb_live.specs.Shown.{Prints, event_lines}
use Rattle.zb_live.specs.declared.line.Log.{Log}
use Rattle.zb_model.specs.Answer.{answer}
use Rattle.zb_model.specs.Data.{Task}
use Rattle.zb_model.specs.Rules.{Setting}
use Rattle.zb_model.specs.State.{NodeState}
use Rattle.zb_model_real.specs.Real.{real}
use Rattle.zb_stored_tables.specs.Cores.{CoreValue}

-- An event was stored, and then its lines were printed; or it failed.
pub record HasHappened (c : Setting) (s : NodeState) (task : Task) (log : Log) (event frame : ℕ) (old : View)
    (before : List ℕ) (result : Result Bool AdminFault) (host : Hosted CoreValue) (new : View) (after : List ℕ) : Type
    0 where
  pub up : OnOk result (IsUp c (tables_after c task s) host new)
  pub prints : OnOk result
      (Prints log c.stations (event_lines event c.me.eui frame (answer real c s task)) before after)
  pub sends : IfOk result (λ sends. sends ≡ is_some (answer real c s task).frame)
  pub moments : LeavesOnly old new (StandsAsEither (Some s) (Some (tables_after c task s)))

-- An event was answered over any disk, one that tells nothing too: the core is the one after the policy's answer, and
-- the lines of that were printed. Or there was no memory for them.
pub record HasAnswered (c : Setting) (s : NodeState) (task : Task) (log : Log) (event frame : ℕ) (before : List ℕ)
    (result : Result Bool AdminFault) (host : Hosted CoreValue) (after : List ℕ) : Type 0 where
  pub core : OnOk result (host.core ≡ record { setting = c; tables = tables_after c task s })
  pub prints : OnOk result
      (Prints log c.stations (event_lines event c.me.eui frame (answer real c s task)) before after)
  pub sends : IfOk result (λ sends. sends ≡ is_some (answer real c s task).frame)

-- When each fault of an event comes. Where there is no memory for its lines it was stored.
abbrev pub IsHappeningFault : Telling → View → View → Hosted CoreValue → AdminFault → Type 0
IsHappeningFault tells old new host NoMemory = Unrisen old.faults new.faults
IsHappeningFault tells old new host fault = (c : Setting) → IsEventFault tells c old new host fault
