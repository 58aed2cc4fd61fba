-- What a host promises of its disk.
use Rattle.std.specs.Prelude.{ℕ, ◌≡◌, ◌≢◌, ◌≤◌, ◌==◌, ◌||◌, ◌⊎◌, List, length, get_or, Vec, vec_capacity, Option, Some, None, Bool, true, false, Result, Err, IfOk, IfErr, OnOk, IsErrOf, IsTrue}
use Rattle.std.specs.Global.{Global}
use Rattle.std.specs.List.{concat}
use Rattle.zb_base.specs.Outside.{Rose, Unrisen}
use Rattle.zb_disk.specs.View.{Telling, View, IsStill, LeavesOnly}
use Rattle.zb_store.specs.declared.fault.StoreFault.{StoreFault}
use Rattle.zb_store.specs.declared.fault.StoreFault.TheVariants.{Disk, NoRecord, TooLarge, NoMemory, Worn}
use Rattle.zb_base.specs.Sizes.{entries_room, payload_room, record_room, last_generation}
use Rattle.zb_store.specs.Layout.{Standing, IsWhole, stands}
use Rattle.zb_store.specs.Steps.{WentThrough, WasAsked}
use Rattle.zb_store.specs.Store.{Place, place_of, IsHeld, IsReady, IsWholeEither, appended, replaced, AppendStop, PutStop}
use Rattle.zb_host.specs.Plans.{Restored, gives}

-- what a record and payloads give: a function of the bytes
abbrev pub Restoring : Type 0
Restoring = List ℕ → List ℕ → Restored

-- what stands on a disk gives the core of this record
abbrev pub Gives : Restoring → Standing → List ℕ → Type 0
Gives restored s w = restored s.content (concat s.payloads) ≡ gives w

-- an image is whole and represents the core of this record
abbrev pub StandsFor : Restoring → List ℕ → List ℕ → Type 0
StandsFor restored w c = (s : Standing) × IsWhole s c × Gives restored s w

-- what the bytes represent gives the core of this record, which a boot on them returns
abbrev pub AnswersOn : Restoring → List ℕ → List ℕ → Type 0
AnswersOn restored bytes w = (s : Standing) × (stands bytes ≡ Some s) × Gives restored s w

-- an image represents the core of the one record or of the other
abbrev pub StandsForEither : Restoring → List ℕ → List ℕ → List ℕ → Type 0
StandsForEither restored old new c = StandsFor restored old c ⊎ StandsFor restored new c

-- the room for what commits write: it has the bytes of an entry, and the memory for a record
abbrev pub IsRoom : Vec ℕ Global → Type 0
IsRoom room = (payload_room ≤ length room.items) × (record_room ≤ vec_capacity room)

-- a host: its core, whether its next commit writes the whole record, and its store, which is there while it is up
pub record Hosted (C : Type 0) : Type 0 where
  pub core : C
  pub whole : Bool
  pub store : Option Place

-- A host that is up: its store is ready, and what is held gives its core. Where its next commit may be an entry, the
-- record isn't of the first version.
pub record IsCurrent {C : Type 0} (restored : Restoring) (recorded : C → List ℕ) (s : Standing) (host : Hosted C)
    (v : View) : Type 0 where
  pub place : host.store ≡ Some (place_of s)
  pub held : IsHeld s v
  pub gives_it : Gives restored s (recorded host.core)
  pub later : host.whole ≡ false → get_or s.content 0 0 ≢ 1

-- no entry more fits
abbrev pub is_full : Option Place → Bool
is_full (Some store) = store.entries == entries_room
is_full None = false

-- whether the next commit writes the whole record
abbrev pub writes_whole : {C : Type 0} → Hosted C → Bool
writes_whole host = host.whole || is_full host.store

-- its next commit would need one generation more than there are
abbrev pub IsWorn : {C : Type 0} → Hosted C → Type 0
IsWorn host = (writes_whole host ≡ true)
    × ((p : Place) × (host.store ≡ Some p) × (p.generation ≡ last_generation))

-- what the next commit leaves
abbrev pub next_standing : Bool → Standing → List ℕ → List ℕ → Standing
next_standing true s content payload = replaced s content
next_standing false s content payload = appended s payload

-- how many writes and syncs it makes
abbrev pub commit_calls : Bool → ℕ
commit_calls true = 6
commit_calls false = 4

-- where it stopped
abbrev pub CommitStop : Telling → Bool → Standing → List ℕ → List ℕ → View → View → Type 0
CommitStop tells true s content payload old new = PutStop tells s content old new
CommitStop tells false s content payload old new = AppendStop tells s payload old new

-- where a commit stopped, and that what it would have left gives the core of the record
abbrev pub HasStopped : Telling → Restoring → Bool → Standing → List ℕ → List ℕ → View → View → Type 0
HasStopped tells restored whole s content payload old new = CommitStop tells whole s content payload old new
    × Gives restored (next_standing whole s content payload) content

-- of a commit: the disk, where its count of faults rose, or the last generation where the whole record is written,
-- and then the count stands
abbrev pub IsCommitFault : Bool → Place → View → View → StoreFault → Type 0
IsCommitFault whole store old new Disk = Rose old.faults new.faults
IsCommitFault whole store old new NoRecord = ⊥
IsCommitFault whole store old new (TooLarge len) = ⊥
IsCommitFault whole store old new NoMemory = ⊥
IsCommitFault whole store old new Worn = (whole ≡ true) × (store.generation ≡ last_generation)
    × Unrisen old.faults new.faults

-- a record or a payload is stored
pub record IsCommit (tells : Telling) (whole : Bool) (content payload : List ℕ) (store : Place) (old new : View)
    (result : Result Place StoreFault) : Type 0 where
  pub moments : (s : Standing) → IsReady store s old → IsTrue tells.content
      → LeavesOnly old new (IsWholeEither s (next_standing whole s content payload))
  pub ready : IfOk result
      (λ after. (s : Standing) → IsReady store s old → IsTrue tells.content
      → IsReady after (next_standing whole s content payload) new)
  pub through : OnOk result (WentThrough tells (commit_calls whole) old new)
  pub stopped : IsErrOf result Disk → (s : Standing) → IsReady store s old → IsTrue tells.content
      → IsTrue tells.steady → CommitStop tells whole s content payload old new
  pub faults : IfErr result (IsCommitFault whole store old new)
  pub worn : whole ≡ true → store.generation ≡ last_generation → result ≡ Err Worn
  pub untouched : IsErrOf result Worn → IsStill old new
  pub count : old.faults ≤ new.faults
  pub unrisen : OnOk result (Unrisen old.faults new.faults)
  pub asked : WasAsked tells old new
