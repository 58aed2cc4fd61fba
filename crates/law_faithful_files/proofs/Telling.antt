-- The deeds of a faithful file meet what the trait says of its calls.
use Rattle.std.proofs.Common.{◌≡◌, inr, ℕ, ◌+◌, List, [], ◌∷◌, length, refl, sym, subst, arith}
use Rattle.std.proofs.lemmas.Bool.{false≢true}
use Rattle.law_faithful_files.specs.Disks.{IsDisk, IsDiskFrom, content_told, file_told, done, failed}
use Rattle.law_faithful_files.specs.Faithful.{Deed, wrote, spoiled, synced, unsynced, read, sized, lost, GoesFaithfully, IsFaithful, TornThere}
use Rattle.zb_base.specs.Outside.{risen}
use Rattle.zb_disk.specs.Calls.{Elapses, IsCounted, IsSync, IsWrite}
use Rattle.zb_disk.specs.TrailLaws.{whole_write}
use Rattle.zb_disk.specs.View.{overwrite}

module _ (seen now : List ℕ) (left may : List ℕ → Type 0) (calls faults : ℕ) where
  elapses : (more : ℕ) → Elapses content_told (file_told seen left calls faults)
      (file_told now may (risen calls 1) more)
  elapses more =
      record {
        later = omega arith;
        nothing_else = λ t bytes before image. inr image;
        kept = λ told. absurd (false≢true told);
      }

  went_through : IsCounted content_told (file_told seen left calls faults) (file_told now may (risen calls 1) faults)
      done
  went_through = record {
    calls = refl;
    cause = record { later = omega arith; unrisen = refl; failed = tt };
    time = elapses faults;
    foretold = λ told. absurd (false≢true told);
  }

  was_refused : IsCounted content_told (file_told seen left calls faults)
      (file_told now may (risen calls 1) (faults + 1)) failed
  was_refused = record {
    calls = refl;
    cause = record { later = omega arith; unrisen = tt; failed = omega arith };
    time = elapses (faults + 1);
    foretold = λ told. absurd (false≢true told);
  }

module _ (seen : List ℕ) (left : List ℕ → Type 0) (calls faults : ℕ) where
  written : (at : ℕ) (bytes : List ℕ) → IsWrite content_told at bytes (file_told seen left calls faults)
      (file_told (overwrite seen at bytes) (TornThere at (length bytes) left) (risen calls 1) faults) done
  written at bytes = record {
    written = λ told. refl;
    torn = λ image found. found;
    opens = λ old image was step. (old, was, step);
    refused = tt;
    counted = went_through seen (overwrite seen at bytes) left (TornThere at (length bytes) left) calls faults;
  }

  spoiled_bytes : (now : List ℕ) (at : ℕ) (bytes : List ℕ)
      → IsWrite content_told at bytes (file_told seen left calls faults)
      (file_told now (TornThere at (length bytes) left) (risen calls 1) (faults + 1)) failed
  spoiled_bytes now at bytes = record {
    written = tt;
    torn = λ image found. found;
    opens = tt;
    refused = λ told. absurd (false≢true told);
    counted = was_refused seen now left (TornThere at (length bytes) left) calls faults;
  }

  spoiled_write : (now : List ℕ) (at n : ℕ) (bytes : List ℕ) → length bytes ≡ n
      → IsWrite content_told at bytes (file_told seen left calls faults)
      (file_told now (TornThere at n left) (risen calls 1) (faults + 1)) failed
  spoiled_write now at n bytes size =
      subst (λ (m : ℕ). IsWrite content_told at bytes (file_told seen left calls faults)
      (file_told now (TornThere at m left) (risen calls 1) (faults + 1)) failed) size (spoiled_bytes now at bytes)

  whole_sync : left seen → IsSync content_told (file_told seen left calls faults)
      (file_told seen (λ bytes. bytes ≡ seen) (risen calls 1) faults) done
  whole_sync there = record {
    durable = λ image only. only;
    seen = refl;
    images = λ image only. subst left (sym only) there;
    images_kept = tt;
    counted = went_through seen seen left (λ bytes. bytes ≡ seen) calls faults;
  }

  failed_sync : IsSync content_told (file_told seen left calls faults)
      (file_told seen left (risen calls 1) (faults + 1)) failed
  failed_sync = record {
    durable = tt;
    seen = refl;
    images = λ image found. found;
    images_kept = λ image found. found;
    counted = was_refused seen seen left left calls faults;
  }

from_here : (seen : List ℕ) (left : List ℕ → Type 0) (calls faults : ℕ) (deeds : List Deed) → left seen
    → GoesFaithfully seen left deeds → IsDiskFrom seen left calls faults deeds
from_here seen left calls faults [] there goes = there
from_here seen left calls faults (wrote at bytes ∷ deeds) there goes = (
  there,
  written seen left calls faults at bytes,
  from_here (overwrite seen at bytes) (TornThere at (length bytes) left) (risen calls 1) faults deeds
      (seen, there, whole_write seen at bytes) goes,
)
from_here seen left calls faults (spoiled at n ∷ deeds) there goes = (
  goes.0,
  (
    there,
    spoiled_write seen left calls faults goes.0 at n,
    from_here goes.0 (TornThere at n left) (risen calls 1) (faults + 1) deeds (seen, there, goes.1) goes.2,
  ),
)
from_here seen left calls faults (synced ∷ deeds) there goes = (
  there,
  whole_sync seen left calls faults there,
  from_here seen (λ bytes. bytes ≡ seen) (risen calls 1) faults
      deeds refl goes,
)
from_here seen left calls faults (unsynced ∷ deeds) there goes =
    (there, failed_sync seen left calls faults, from_here seen left (risen calls 1) (faults + 1) deeds there goes)
from_here seen left calls faults (read at bytes ∷ deeds) there goes =
    (goes.0, from_here seen left calls faults deeds there goes.1)
from_here seen left calls faults (sized n ∷ deeds) there goes =
    (goes.0, from_here seen left calls faults deeds there goes.1)
from_here seen left calls faults (lost found ∷ deeds) there goes =
    (goes.0, from_here found (λ bytes. bytes ≡ found) calls faults deeds refl goes.1)

pub is_disk : (start : List ℕ) (deeds : List Deed) → IsFaithful start deeds → IsDisk start deeds
is_disk start deeds faithful = from_here start (λ bytes. bytes ≡ start) 0 0 deeds refl faithful
