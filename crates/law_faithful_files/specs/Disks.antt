-- A file as a disk that tells its content: each of its deeds is a call of the trait of a disk.
use Rattle.std.specs.Prelude.{ℕ, ◌+◌, ◌≡◌, List, [], ◌∷◌, length, true, false, Result, Ok, Err}
use Rattle.law_faithful_files.specs.Faithful.{Deed, wrote, spoiled, synced, unsynced, read, sized, lost, TornThere}
use Rattle.zb_base.specs.Outside.{risen}
use Rattle.zb_disk.specs.Calls.{IsSync, IsWrite}
use Rattle.zb_disk.specs.View.{Telling, View, overwrite, window}

-- It tells what it reads and what a crash may leave: this the theorems on stores ask of a disk.
abbrev pub content_told : Telling
content_told = record { content = true; steady = false; past = false; refusals = false }

-- a file that reads so, of which this may be on the disk, after these numbers of calls and faults
abbrev pub file_told : List ℕ → (List ℕ → Type 0) → ℕ → ℕ → View
file_told seen left calls faults = record {
  seen = seen;
  images = left;
  calls = calls;
  faults = faults;
  off = λ k. false;
  refuses = λ k. false;
  torn = [];
  moment = 0;
  since = λ t bytes. left bytes;
}

abbrev pub done : Result (Unit {0}) (Unit {0})
done = Ok tt

abbrev pub failed : Result (Unit {0}) (Unit {0})
failed = Err tt

-- From this state on each deed is what the trait says of its call, what is read is always one of the images, and after
-- a loss of power the file has one of them.
abbrev pub IsDiskFrom : List ℕ → (List ℕ → Type 0) → ℕ → ℕ → List Deed → Type 0
IsDiskFrom seen left calls faults [] = left seen
IsDiskFrom seen left calls faults (wrote at bytes ∷ deeds) =
    left seen × IsWrite content_told at bytes (file_told seen left calls faults)
    (file_told (overwrite seen at bytes) (TornThere at (length bytes) left) (risen calls 1) faults) done
    × IsDiskFrom (overwrite seen at bytes) (TornThere at (length bytes) left) (risen calls 1) faults deeds
IsDiskFrom seen left calls faults (spoiled at n ∷ deeds) = (now : List ℕ)
    × (left seen
    × ((bytes : List ℕ) → length bytes ≡ n → IsWrite content_told at bytes (file_told seen left calls faults)
    (file_told now (TornThere at n left) (risen calls 1) (faults + 1)) failed)
    × IsDiskFrom now (TornThere at n left) (risen calls 1) (faults + 1) deeds)
IsDiskFrom seen left calls faults (synced ∷ deeds) =
    left seen × IsSync content_told (file_told seen left calls faults)
    (file_told seen (λ bytes. bytes ≡ seen) (risen calls 1) faults) done
    × IsDiskFrom seen (λ bytes. bytes ≡ seen) (risen calls 1) faults deeds
IsDiskFrom seen left calls faults (unsynced ∷ deeds) =
    left seen × IsSync content_told (file_told seen left calls faults)
    (file_told seen left (risen calls 1) (faults + 1)) failed
    × IsDiskFrom seen left (risen calls 1) (faults + 1) deeds
IsDiskFrom seen left calls faults (read at bytes ∷ deeds) = (bytes ≡ window seen at (length bytes))
    × IsDiskFrom seen left calls faults deeds
IsDiskFrom seen left calls faults (sized n ∷ deeds) = (n ≡ length seen) × IsDiskFrom seen left calls faults deeds
IsDiskFrom seen left calls faults (lost found ∷ deeds) = left found × IsDiskFrom found (λ bytes. bytes ≡ found) calls
    faults deeds

-- a file that had these bytes when it was opened is a disk over these deeds
abbrev pub IsDisk : List ℕ → List Deed → Type 0
IsDisk start deeds = IsDiskFrom start (λ bytes. bytes ≡ start) 0 0 deeds
