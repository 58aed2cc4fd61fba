-- What a node lives through: calls of its host, and crashes at any moment of them and between them.
use Rattle.std.specs.Prelude.{ℕ, ◌≡◌, ◌++◌, List, [], ◌∷◌, Bool, true, false, Option, Some, None, Result, Ok, Err, is_some, IsTrue}
use Rattle.zb_base.specs.declared.fault.OrMemory.{OrMemory}
use Rattle.zb_base.specs.declared.fault.OrMemory.TheVariants.{Fault, NoMemory}
use Rattle.zb_host.specs.declared.fault.HostFault.{HostFault}
use Rattle.zb_host.specs.declared.fault.RecordFault.{RecordFault}
use Rattle.zb_host.specs.declared.fault.RecordFault.TheVariants.{Disk, NoRecord, BadRecord, Worn}
use Rattle.zb_host.specs.Hosts.{Hosted}
use Rattle.zb_host.specs.Calls.{Words, Handled, IsHandled, IsBooted}

-- a call: its answer, with the host that it leaves or makes, and the disk that it leaves
pub data Call (C D O : Type 0) : Type 0 where
  handle : Handled HostFault O → Hosted C → D → Call C D O
  boot : Result (Hosted C) (OrMemory RecordFault) → D → Call C D O

abbrev pub host_after : {C D O : Type 0} → Call C D O → Option (Hosted C)
host_after (handle result after disk) = Some after
host_after (boot (Ok host) disk) = Some host
host_after (boot (Err fault) disk) = None

abbrev pub disk_after : {C D O : Type 0} → Call C D O → D
disk_after (handle result after disk) = disk
disk_after (boot result disk) = disk

-- the call keeps its contract; `handle` is called of a host that is up, and `boot` at any time
abbrev pub IsCall : {C D O : Type 0} → Words C D → Option (Hosted C) → D → Call C D O → Type 0
IsCall words host old (boot result disk) = IsBooted words old result disk
IsCall words (Some host) old (handle result after disk) = IsTrue (is_some host.store)
    × IsHandled words host old result after disk
IsCall words None old (handle result after disk) = ⊥

-- A step. A call returns. Or a crash cuts it short at a moment of it, and it never returns: then it is given as it
-- would have ended. Or a crash comes between two calls. With a crash comes the disk that it leaves. The host is gone.
pub data Step (C D O : Type 0) : Type 0 where
  returns : Call C D O → Step C D O
  cut_short : Call C D O → D → Step C D O
  crash : D → Step C D O

-- what a crash at a moment of a call leaves is one of the images of that moment, and between two calls one of the
-- images
abbrev pub AreSteps : {C D O : Type 0} → Words C D → Option (Hosted C) → D → List (Step C D O) → Type 0
AreSteps words host disk [] = Unit {0}
AreSteps words host disk (returns call ∷ steps) = IsCall words host disk call
    × AreSteps words (host_after call) (disk_after call) steps
AreSteps words host disk (cut_short call left ∷ steps) = IsCall words host disk call
    × ((c : List ℕ) → (words.state left).images c → (words.state (disk_after call)).since (words.state disk).moment c)
    × AreSteps words None left steps
AreSteps words host disk (crash left ∷ steps) =
    ((c : List ℕ) → (words.state left).images c → (words.state disk).images c) × AreSteps words None left steps

-- an event that was handled: the record of the core that it leads to, and whether what it sends was handed out
pub record Event : Type 0 where
  pub after : List ℕ
  pub out : Bool

-- the record of the core after events
abbrev pub record_after : List ℕ → List Event → List ℕ
record_after before [] = before
record_after before (e ∷ es) = record_after e.after es

-- nothing was handed out from these
abbrev pub NoneOut : List Event → Type 0
NoneOut [] = Unit {0}
NoneOut (e ∷ es) = (e.out ≡ false) × NoneOut es

-- the record of the core after the first of the events, and from the others nothing was handed out
pub record IsAfterFirst (before : List ℕ) (es : List Event) (booted : List ℕ) : Type 0 where
  pub first : List Event
  pub others : List Event
  pub all : es ≡ first ++ others
  pub record_is : booted ≡ record_after before first
  pub none_out : NoneOut others

-- a boot failed by a fault of the disk or out of memory: the record isn't lost
abbrev pub IsSpared : OrMemory RecordFault → Type 0
IsSpared (Fault Disk) = Unit {0}
IsSpared (Fault NoRecord) = ⊥
IsSpared (Fault (BadRecord at)) = ⊥
IsSpared (Fault Worn) = ⊥
IsSpared NoMemory = Unit {0}

-- After a boot whose core has this record, and these events since: each boot restores the record after some prefix of
-- the events since the boot before it. Nothing was handed out from the other events.
abbrev pub EachGoesOn : {C D O : Type 0} → (C → List ℕ) → List ℕ → List Event → List (Step C D O) → Type 0
EachGoesOn recorded booted es [] = Unit {0}
EachGoesOn recorded booted es (returns (boot (Ok host) disk) ∷ steps) = IsAfterFirst booted es (recorded host.core)
    × EachGoesOn recorded (recorded host.core) [] steps
EachGoesOn recorded booted es (returns (boot (Err fault) disk) ∷ steps) = IsSpared fault
    × EachGoesOn recorded booted es steps
EachGoesOn recorded booted es (returns (handle (Ok r) after disk) ∷ steps) =
    EachGoesOn recorded booted (es ++ record { after = recorded after.core; out = true } ∷ []) steps
EachGoesOn recorded booted es (returns (handle (Err fault) after disk) ∷ steps) =
    EachGoesOn recorded booted (es ++ record { after = recorded after.core; out = false } ∷ []) steps
EachGoesOn recorded booted es (cut_short (handle result after disk) left ∷ steps) =
    EachGoesOn recorded booted (es ++ record { after = recorded after.core; out = false } ∷ []) steps
EachGoesOn recorded booted es (cut_short (boot result disk) left ∷ steps) = EachGoesOn recorded booted es steps
EachGoesOn recorded booted es (crash left ∷ steps) = EachGoesOn recorded booted es steps

-- from the first boot that goes through
abbrev pub EachBootGoesOn : {C D O : Type 0} → (C → List ℕ) → List (Step C D O) → Type 0
EachBootGoesOn recorded [] = Unit {0}
EachBootGoesOn recorded (returns (boot (Ok host) disk) ∷ steps) = EachGoesOn recorded (recorded host.core) [] steps
EachBootGoesOn recorded (returns (boot (Err fault) disk) ∷ steps) = EachBootGoesOn recorded steps
EachBootGoesOn recorded (returns (handle result after disk) ∷ steps) = EachBootGoesOn recorded steps
EachBootGoesOn recorded (cut_short call left ∷ steps) = EachBootGoesOn recorded steps
EachBootGoesOn recorded (crash left ∷ steps) = EachBootGoesOn recorded steps
