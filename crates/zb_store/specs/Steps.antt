-- How far a run of writes and syncs came.
use Rattle.std.specs.Prelude.{ℕ, ◌+◌, ◌<◌, ◌≡◌, ◌==◌, ◌⊎◌, List, [], ◌∷◌, length, true, false, IsTrue, Result, OnOk, OnErr, if◌then◌else◌}
use Rattle.zb_base.specs.Outside.{risen, HasCause}
use Rattle.zb_disk.specs.View.{Telling, View, Torn, Follows, Opens, Only, IsSame, LeavesOnly, overwrite}
use Rattle.zb_store.specs.Layout.{open_gate}

-- n writes and syncs went through, and those after them are refused as was told
pub record WentThrough (tells : Telling) (n : ℕ) (old new : View) : Type 0 where
  pub calls : new.calls ≡ risen old.calls n
  pub foretold : IsTrue tells.refusals → (k : ℕ) → k < n → old.refuses k ≡ false
  pub later : IsTrue tells.refusals → (k : ℕ) → new.refuses k ≡ old.refuses (k + n)
  pub off : IsTrue tells.refusals → (k : ℕ) → new.off k ≡ old.off (k + n)
  pub on : IsTrue tells.refusals → new.off 0 ≡ false
  pub torn : IsTrue tells.refusals → new.torn ≡ old.torn

-- the next one after n was refused; which of those after it are refused, and whether the disk is off since then, was
-- told
pub record StoppedAfter (tells : Telling) (n : ℕ) (old new : View) : Type 0 where
  pub calls : new.calls ≡ risen old.calls (n + 1)
  pub foretold : IsTrue tells.refusals → (k : ℕ) → k < n → old.refuses k ≡ false
  pub refused : IsTrue tells.refusals → old.refuses n ≡ true
  pub later : IsTrue tells.refusals → (k : ℕ) → new.refuses k ≡ old.refuses (k + (n + 1))
  pub off : IsTrue tells.refusals → new.off 0 ≡ old.off (n + 1)
  pub torn : IsTrue tells.refusals → new.torn ≡ old.torn

-- one of a run of that many was refused
abbrev pub StoppedWithin : Telling → ℕ → View → View → Type 0
StoppedWithin tells run old new = (n : ℕ) × (n < run) × StoppedAfter tells n old new

-- a count of calls after n more, which stops at 2^64 - 1
abbrev pub calls_then : ℕ → ℕ → ℕ
calls_then count n = if n == 0 then count else risen count n

-- Some writes and syncs were asked for, whether they went through or not. How many is told by the count of calls, and
-- the disk refuses those after them as was told.
pub record WasAsked (tells : Telling) (old new : View) : Type 0 where
  pub made : ℕ
  pub calls : new.calls ≡ calls_then old.calls made
  pub later : IsTrue tells.refusals → (k : ℕ) → new.refuses k ≡ old.refuses (k + made)
  pub off : IsTrue tells.refusals → (k : ℕ) → new.off k ≡ old.off (k + made)

-- an image that is an old one, torn at one place
abbrev pub TornFrom : (List ℕ → Type 0) → ℕ → ℕ → List ℕ → Type 0
TornFrom images at n c = (d : List ℕ) × images d × Torn at n d c

-- a range is written and not synced: what is read, and exactly which images there are
pub record IsOpenRange (at : ℕ) (bytes : List ℕ) (old new : View) : Type 0 where
  pub seen : new.seen ≡ overwrite old.seen at bytes
  pub torn : Follows (Torn at (length bytes)) old.images new.images
  pub opens : Opens (Torn at (length bytes)) old.images new.images

-- a write of a range that stopped: before it, or between it and its sync
pub data PlaceStop (tells : Telling) (at : ℕ) (bytes : List ℕ) (old new : View) : Type 0 where
  before_write : StoppedAfter tells 0 old new → IsSame old new → PlaceStop tells at bytes old new
  before_sync : StoppedAfter tells 1 old new → IsOpenRange at bytes old new → PlaceStop tells at bytes old new

-- a range is written, and synced
pub record IsPlaced {T E : Type 0} (tells : Telling) (at : ℕ) (bytes : List ℕ) (old new : View)
    (result : Result T E) : Type 0 where
  pub seen : OnOk result (IsTrue tells.content → new.seen ≡ overwrite old.seen at bytes)
  pub durable : OnOk result (Only new.seen new.images)
  pub through : OnOk result (WentThrough tells 2 old new)
  pub past : LeavesOnly old new (TornFrom old.images at (length bytes))
  pub stopped : OnErr result (IsTrue tells.content → IsTrue tells.steady → PlaceStop tells at bytes old new)
  pub cause : HasCause old.faults new.faults result
  pub asked : WasAsked tells old new

-- what is read once a range after a gate is written, and once the gate is open too
abbrev pub staged : ℕ → List ℕ → List ℕ → List ℕ
staged gate bytes seen = overwrite seen (gate + 1) bytes

abbrev pub gated : ℕ → List ℕ → List ℕ → List ℕ
gated gate bytes seen = overwrite (staged gate bytes seen) gate (open_gate ∷ [])

-- bytes after a gate and then the gate: where it stopped
pub data GateStop (tells : Telling) (gate : ℕ) (bytes : List ℕ) (old new : View) : Type 0 where
  before_bytes : StoppedAfter tells 0 old new → IsSame old new → GateStop tells gate bytes old new
  bytes_unsynced : StoppedAfter tells 1 old new → Follows (Torn (gate + 1) (length bytes)) old.images new.images
      → GateStop tells gate bytes old new
  before_gate : StoppedAfter tells 2 old new → Only (staged gate bytes old.seen) new.images
      → GateStop tells gate bytes old new
  gate_unsynced : StoppedAfter tells 3 old new → new.seen ≡ gated gate bytes old.seen
      → ((c : List ℕ) → new.images c → Torn gate 1 (staged gate bytes old.seen) c)
      → ((c : List ℕ) → Torn gate 1 (staged gate bytes old.seen) c → new.images c)
      → GateStop tells gate bytes old new

-- an image while bytes are written after a gate, and then the gate
abbrev pub IsStage : ℕ → List ℕ → View → List ℕ → Type 0
IsStage gate bytes old c = TornFrom old.images (gate + 1) (length bytes) c ⊎ Torn gate 1 (staged gate bytes old.seen) c

pub record IsGated {T E : Type 0} (tells : Telling) (gate : ℕ) (bytes : List ℕ) (old new : View)
    (result : Result T E) : Type 0 where
  pub seen : OnOk result (IsTrue tells.content → new.seen ≡ gated gate bytes old.seen)
  pub durable : OnOk result (Only new.seen new.images)
  pub through : OnOk result (WentThrough tells 4 old new)
  pub past : IsTrue tells.content → LeavesOnly old new (IsStage gate bytes old)
  pub stopped : OnErr result (IsTrue tells.content → IsTrue tells.steady → GateStop tells gate bytes old new)
  pub cause : HasCause old.faults new.faults result
  pub asked : WasAsked tells old new
