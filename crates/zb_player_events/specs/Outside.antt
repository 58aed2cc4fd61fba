-- The events of the outside: bytes that are put on the air, and forged frames.
use Rattle.std.specs.Prelude.{◌≡◌, Bool, true, false, List}
use Rattle.zb_model.specs.Lines.{Line}
use Rattle.zb_model.specs.Play.{Schedule, Disk, Step}
use Rattle.zb_player_events.specs.Told.{Adds}
use Rattle.zb_player_events.specs.declared.ledger.Ledger.{Ledger}
use Rattle.zb_sched_line.specs.Said.{Event, Injects, ForgesNet, ForgesBoth, ForgesOpen}

-- whether an event is of the outside; each other one is of a node
abbrev pub is_outside : Event → Bool
is_outside (Injects bytes) = true
is_outside (ForgesNet to from source key sequence counter content) = true
is_outside (ForgesBoth to from source key sequence counter label base aps_counter command) = true
is_outside (ForgesOpen to from source label base aps_counter command) = true
is_outside _ = false

-- whether it is a forged frame with an APS command in it
abbrev pub forges_command : Event → Bool
forges_command (ForgesBoth to from source key sequence counter label base aps_counter command) = true
forges_command (ForgesOpen to from source label base aps_counter command) = true
forges_command _ = false

-- The event's lines were told, and it leaves the disks as they are.
pub record IsSent (w : Schedule) (h : List Line) (ds : List Disk) (g : Step) (old new : Ledger) : Type 0 where
  pub adds : Adds w h g.lines old new
  pub disks : g.disks ≡ ds
