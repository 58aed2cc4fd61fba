-- What is asked of the file of a store. No program can promise it: it is what is trusted of the file system, of the
-- device under it, and of who runs the program.
use Rattle.std.specs.Prelude.{ℕ, ◌≡◌, List, [], ◌∷◌, length}
use Rattle.zb_disk.specs.View.{Torn, overwrite, window}

-- What happens to a file from the moment at which one process opened, locked and synced it: a call of that process
-- with the system's answer, or a loss of power. No other process writes into the file, so there are no other deeds.
pub data Deed : Type 0 where
  -- these bytes were written at a place
  wrote : ℕ → List ℕ → Deed
  -- a write of this number of bytes at a place failed, and left any part of them
  spoiled : ℕ → ℕ → Deed
  -- a sync went through
  synced : Deed
  -- a sync failed
  unsynced : Deed
  -- these bytes were read at a place; those past the end are 00
  read : ℕ → List ℕ → Deed
  -- the file has this number of bytes
  sized : ℕ → Deed
  -- the power was lost, and came back: the file has these bytes
  lost : List ℕ → Deed

-- what may be on the disk after a write there that isn't synced: what was there before it, torn in that range alone
abbrev pub TornThere : ℕ → ℕ → (List ℕ → Type 0) → List ℕ → Type 0
TornThere at n left bytes = (old : List ℕ) × left old × Torn at n old bytes

-- The file reads as these bytes, any of those may be on the disk, and from then on it is faithful over these deeds.
abbrev pub GoesFaithfully : List ℕ → (List ℕ → Type 0) → List Deed → Type 0
GoesFaithfully seen left [] = Unit {0}
-- what was written reads so, and is torn at most in its own range
GoesFaithfully seen left (wrote at bytes ∷ deeds) = GoesFaithfully (overwrite seen at bytes)
    (TornThere at (length bytes) left) deeds
-- a failed write spoils at most its own range
GoesFaithfully seen left (spoiled at n ∷ deeds) = (now : List ℕ) × Torn at n seen now
    × GoesFaithfully now (TornThere at n left) deeds
-- after a sync what reads is on the disk; a failed one changes nothing
GoesFaithfully seen left (synced ∷ deeds) = GoesFaithfully seen (λ bytes. bytes ≡ seen) deeds
GoesFaithfully seen left (unsynced ∷ deeds) = GoesFaithfully seen left deeds
-- it reads back what was written, and has that size
GoesFaithfully seen left (read at bytes ∷ deeds) = (bytes ≡ window seen at (length bytes))
    × GoesFaithfully seen left deeds
GoesFaithfully seen left (sized n ∷ deeds) = (n ≡ length seen) × GoesFaithfully seen left deeds
-- a loss of power leaves what may be on the disk, and nothing else
GoesFaithfully seen left (lost found ∷ deeds) = left found × GoesFaithfully found (λ bytes. bytes ≡ found) deeds

-- A file that had these bytes when it was opened is faithful over these deeds, the oldest first. It reads back what
-- was written, it keeps what was synced, and a loss of power tears only what wasn't.
abbrev pub IsFaithful : List ℕ → List Deed → Type 0
IsFaithful start deeds = GoesFaithfully start (λ bytes. bytes ≡ start) deeds
