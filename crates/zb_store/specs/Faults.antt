-- When each fault of a store comes. At any but the disk's own its count of faults stands: no call failed.
use Rattle.std.specs.Prelude.{ℕ, ◌<◌, ◌≤◌, ◌≡◌, ◌≢◌, List, length, None, true, IsTrue, Result, OnOk, IfErr, IsErrOf}
use Rattle.zb_base.specs.Outside.{Rose, Unrisen}
use Rattle.zb_disk.specs.View.{Telling, View, IsStill}
use Rattle.zb_store.specs.declared.fault.StoreFault.{StoreFault}
use Rattle.zb_store.specs.declared.fault.StoreFault.TheVariants.{Disk, NoRecord, TooLarge, NoMemory, Worn}
use Rattle.zb_base.specs.Sizes.{record_room, payload_room, last_generation}
use Rattle.zb_store.specs.Layout.{stands}
use Rattle.zb_store.specs.Store.{Place}

-- of `append`: the disk, where its count of faults rose, or too large a payload
abbrev pub IsAppendFault : List ℕ → View → View → StoreFault → Type 0
IsAppendFault payload old new Disk = Rose old.faults new.faults
IsAppendFault payload old new NoRecord = ⊥
IsAppendFault payload old new (TooLarge len) = (len ≡ length payload) × (payload_room < length payload)
    × Unrisen old.faults new.faults
IsAppendFault payload old new NoMemory = ⊥
IsAppendFault payload old new Worn = ⊥

-- of `put`: the disk, too large a record, or the last generation
abbrev pub IsPutFault : Place → List ℕ → View → View → StoreFault → Type 0
IsPutFault store content old new Disk = Rose old.faults new.faults
IsPutFault store content old new NoRecord = ⊥
IsPutFault store content old new (TooLarge len) = (len ≡ length content) × (record_room < length content)
    × Unrisen old.faults new.faults
IsPutFault store content old new NoMemory = ⊥
IsPutFault store content old new Worn = (length content ≤ record_room) × (store.generation ≡ last_generation)
    × Unrisen old.faults new.faults

-- of `format`: the disk, too large a record, or out of memory
abbrev pub IsFormatFault : List ℕ → View → View → StoreFault → Type 0
IsFormatFault content old new Disk = Rose old.faults new.faults
IsFormatFault content old new NoRecord = ⊥
IsFormatFault content old new (TooLarge len) = (len ≡ length content) × (record_room < length content)
    × Unrisen old.faults new.faults
IsFormatFault content old new NoMemory = Unrisen old.faults new.faults
IsFormatFault content old new Worn = ⊥

-- of the calls that read: the disk, no open slot, or out of memory
abbrev pub IsReadFault : Telling → View → View → StoreFault → Type 0
IsReadFault tells old new Disk = Rose old.faults new.faults
IsReadFault tells old new NoRecord = (IsTrue tells.content → stands old.seen ≡ None) × Unrisen old.faults new.faults
IsReadFault tells old new (TooLarge len) = ⊥
IsReadFault tells old new NoMemory = Unrisen old.faults new.faults
IsReadFault tells old new Worn = ⊥

-- of `standing`, which takes no memory
abbrev pub IsStandingFault : Telling → View → View → StoreFault → Type 0
IsStandingFault tells old new Disk = Rose old.faults new.faults
IsStandingFault tells old new NoRecord = (IsTrue tells.content → stands old.seen ≡ None)
    × Unrisen old.faults new.faults
IsStandingFault tells old new (TooLarge len) = ⊥
IsStandingFault tells old new NoMemory = ⊥
IsStandingFault tells old new Worn = ⊥

-- of a read into memory: the disk, or out of memory
abbrev pub IsBytesFault : View → View → StoreFault → Type 0
IsBytesFault old new Disk = Rose old.faults new.faults
IsBytesFault old new NoRecord = ⊥
IsBytesFault old new (TooLarge len) = ⊥
IsBytesFault old new NoMemory = Unrisen old.faults new.faults
IsBytesFault old new Worn = ⊥

-- a call that only reads: nothing changes but the count of faults, and it fails for the disk only where that is off
pub record OnlyReads {T : Type 0} (tells : Telling) (old new : View) (result : Result T StoreFault) : Type 0 where
  pub still : IsStill old new
  pub refusal : IsErrOf result Disk → IsTrue tells.refusals → old.off 0 ≡ true
  pub count : old.faults ≤ new.faults
  pub unrisen : OnOk result (Unrisen old.faults new.faults)

-- where it wasn't the disk that failed, nothing has changed
abbrev pub IsSpared : {T : Type 0} → Result T StoreFault → View → View → Type 0
IsSpared result old new = IfErr result (λ fault. fault ≢ Disk → IsStill old new)
