-- What the calls of a host promise to the next call, and to whoever comes after a crash.
use Rattle.std.specs.Prelude.{ℕ, ◌≡◌, ◌≢◌, ◌==◌, List, [], get_or, Some, None, Result, Ok, Err, IfOk, IfErr, OnErr, IsTrue}
use Rattle.arrayvec.specs.declared.array_vec.ArrayVec.{ArrayVec}
use Rattle.zb_node_types.specs.declared.change.Change.{Change}
use Rattle.zb_disk.specs.View.{Telling, View, LeavesOnly}
use Rattle.zb_store.specs.Layout.{Standing, stands}
use Rattle.zb_store.specs.Store.{place_of, AllWhole, WasThere}
use Rattle.zb_base.specs.declared.fault.OrMemory.{OrMemory}
use Rattle.zb_host.specs.declared.fault.RecordFault.{RecordFault}
use Rattle.zb_host.specs.declared.plan.Plan.{Plan}
use Rattle.zb_host.specs.Hosts.{Restoring, Gives, StandsForEither, Hosted, IsCurrent, writes_whole, next_standing}
use Rattle.zb_host.specs.HostFaults.{IsBootFault}

-- what a law on calls has of a core and of a disk: their ghost members
pub record Words (C D : Type 0) : Type 1 where
  pub tells : Telling
  pub state : D → View
  pub restored : Restoring
  pub recorded : C → List ℕ
  pub payload : List Change → List ℕ

-- the ghost members of a core and of a disk, as such words
abbrev pub words_of : {C D : Type 0} → Telling → (D → View) → Restoring → (C → List ℕ) → (List Change → List ℕ)
    → Words C D
words_of tells state restored recorded payload =
    record { tells = tells; state = state; restored = restored; recorded = recorded; payload = payload }

-- what a call for an event returns: the changes and what goes out, or why not
abbrev pub Handled : Type 0 → Type 0 → Type 0
Handled F O = Result (ArrayVec Change 16 (Unit {0}) × O) F

-- the same of `handle_into`, from what it returns and the plan that it writes
abbrev pub handled : {F O : Type 0} → Result (Unit {0}) F → Plan O → Handled F O
handled (Ok u) p = Ok (p.changes, p.out)
handled (Err fault) p = Err fault

-- a call for an event
pub record IsHandled {C D F O : Type 0} (words : Words C D) (before : Hosted C) (old : D) (result : Handled F O)
    (after : Hosted C) (new : D) : Type 0 where
  -- a crash at any moment leaves the old record's core or the new one's
  pub moments : (s : Standing) → IsCurrent words.restored words.recorded s before (words.state old)
      → IsTrue words.tells.content
      → LeavesOnly (words.state old) (words.state new)
      (StandsForEither words.restored (words.recorded before.core) (words.recorded after.core))
  -- what goes out goes out where every image represents the new, with its changes in one commit
  pub kept : IfOk result
      (λ r. r.0.items ≢ [] → (s : Standing) → IsCurrent words.restored words.recorded s before (words.state old)
      → IsTrue words.tells.content
      → IsCurrent words.restored words.recorded
      (next_standing (writes_whole before) s (words.recorded after.core) (words.payload r.0.items)) after
      (words.state new))
  -- and without changes where every image represents the same as before
  pub idle_kept : IfOk result
      (λ r. r.0.items ≡ [] → (s : Standing) → IsCurrent words.restored words.recorded s before (words.state old)
      → IsCurrent words.restored words.recorded s after (words.state new))
  -- after a fault it is down
  pub down : OnErr result (after.store ≡ None)

-- a call of `boot`
pub record IsBooted {C D : Type 0} (words : Words C D) (old : D) (result : Result (Hosted C) (OrMemory RecordFault))
    (new : D) : Type 0 where
  -- its core is that of the record and the entries that the disk as it reads represents
  pub answer : IfOk result (λ h. IsTrue words.tells.content → (s : Standing) × (stands (words.state old).seen ≡ Some s)
      × Gives words.restored s (words.recorded h.core) × (h.store ≡ Some (place_of s))
      × (h.whole ≡ (get_or s.content 0 0 == 1)))
  -- and every image represents them
  pub ready : IfOk result (λ h. AllWhole (words.state old) → IsTrue words.tells.content → (s : Standing)
      → stands (words.state old).seen ≡ Some s
      → IsCurrent words.restored words.recorded s h (words.state new))
  -- each image at each moment represents the same as some image at entry
  pub moments : AllWhole (words.state old) → IsTrue words.tells.content
      → LeavesOnly (words.state old) (words.state new) (WasThere (words.state old))
  -- when each fault comes
  pub faults : IfErr result (IsBootFault words.tells words.restored (words.state old) (words.state new))
