-- When each fault of a host comes. At any but the disk's own no call failed: the count of faults is as it was.
use Rattle.std.specs.Prelude.{◌≡◌, Bool, true, Option, Some, None, IsTrue}
use Rattle.std.specs.List.{concat}
use Rattle.zb_base.specs.Outside.{Rose, Unrisen}
use Rattle.zb_base.specs.declared.fault.OrMemory.{OrMemory}
use Rattle.zb_base.specs.declared.fault.OrMemory.TheVariants.{Fault, NoMemory}
use Rattle.zb_disk.specs.View.{Telling, View}
use Rattle.zb_store.specs.Layout.{Standing, stands}
use Rattle.zb_store.specs.Store.{Place}
use Rattle.zb_host.specs.declared.fault.HostFault.{HostFault}
use Rattle.zb_host.specs.declared.fault.HostFault.TheVariants as host
use Rattle.zb_host.specs.declared.fault.RecordFault.{RecordFault}
use Rattle.zb_host.specs.declared.fault.RecordFault.TheVariants.{Disk, NoRecord, BadRecord, Worn}
use Rattle.zb_store.specs.declared.fault.StoreFault.{StoreFault}
use Rattle.zb_store.specs.declared.fault.StoreFault.TheVariants as store
use Rattle.zb_host.specs.Plans.{bad}
use Rattle.zb_host.specs.Hosts.{Restoring}
use Rattle.zb_base.specs.Sizes.{last_generation}

-- of changes that weren't stored: the disk, where its count of faults rose, or the last generation where the whole
-- record is written
abbrev pub IsUnstored : Bool → Option Place → View → View → RecordFault → Type 0
IsUnstored whole store old new Disk = Rose old.faults new.faults
IsUnstored whole store old new NoRecord = ⊥
IsUnstored whole store old new (BadRecord at) = ⊥
IsUnstored whole store old new Worn = (whole ≡ true)
    × ((p : Place) × (store ≡ Some p) × (p.generation ≡ last_generation)) × Unrisen old.faults new.faults

-- of `handle`: the same
abbrev pub IsHandleFault : Bool → Option Place → View → View → HostFault → Type 0
IsHandleFault whole store old new (host.Disk changes) = IsUnstored whole store old new Disk
IsHandleFault whole store old new host.Worn = IsUnstored whole store old new Worn

-- of `boot`: the disk, out of memory, no open slot, or what the disk represents gives no core
abbrev pub IsBootFault : Telling → Restoring → View → View → OrMemory RecordFault → Type 0
IsBootFault tells restored old new (Fault Disk) = Rose old.faults new.faults
IsBootFault tells restored old new (Fault NoRecord) = (IsTrue tells.content → stands old.seen ≡ None)
    × Unrisen old.faults new.faults
IsBootFault tells restored old new (Fault (BadRecord at)) = (IsTrue tells.content → (s : Standing)
    × (stands old.seen ≡ Some s) × (restored s.content (concat s.payloads) ≡ bad at)) × Unrisen old.faults new.faults
IsBootFault tells restored old new (Fault Worn) = ⊥
IsBootFault tells restored old new NoMemory = Unrisen old.faults new.faults

-- this fault of a host is that fault of a store; a commit has no other
abbrev pub IsOfCommit : StoreFault → RecordFault → Type 0
IsOfCommit store.Disk fault = fault ≡ Disk
IsOfCommit store.NoRecord fault = ⊥
IsOfCommit (store.TooLarge len) fault = ⊥
IsOfCommit store.NoMemory fault = ⊥
IsOfCommit store.Worn fault = fault ≡ Worn
