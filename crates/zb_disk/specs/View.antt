-- A disk as the layers above see it: what it reads, and what a crash may leave.
use Rattle.std.specs.Prelude.{ℕ, ◌+◌, ◌-◌, ◌≤◌, ◌≡◌, ◌⊎◌, ◌++◌, List, length, take, drop, replicate, Bool}

-- Which facts about itself a kind of disk describes.
pub record Telling : Type 0 where
  -- Its content: what is read, and what a crash may leave.
  pub content : Bool
  -- That a refused call changes nothing.
  pub steady : Bool
  -- Its past moments: what a crash at an earlier moment could have left.
  pub past : Bool
  -- Its refusals: which calls it will refuse.
  pub refusals : Bool

-- A disk at one moment.
pub record View : Type 1 where
  -- The bytes that it reads.
  pub seen : List ℕ
  -- Its images: whether a crash now may leave these bytes.
  pub images : List ℕ → Type 0
  -- How many writes and syncs were called.
  pub calls : ℕ
  -- How many calls failed.
  pub faults : ℕ
  -- Whether it refuses to read after this number of further writes and syncs.
  pub off : ℕ → Bool
  -- Whether it refuses the write or sync of that number from now on. The next one has the number 0.
  pub refuses : ℕ → Bool
  -- The bytes that a stop leaves, repeated, in each run that was written and not synced. If there are none, such runs
  -- stay as written.
  pub torn : List ℕ
  -- The moment, a number that never falls.
  pub moment : ℕ
  -- The images that a crash at some moment since that one could have left.
  pub since : ℕ → List ℕ → Type 0

-- n bytes from a place on; those past the end are 00
abbrev pub window : List ℕ → ℕ → ℕ → List ℕ
window bytes at n = take n (drop at bytes ++ replicate n 0)

-- These bytes written at a place, over what is there and past the end.
abbrev pub overwrite : List ℕ → ℕ → List ℕ → List ℕ
overwrite old at bytes = take at (old ++ replicate (at - length old) 0) ++ bytes ++ drop (at + length bytes) old

-- A write of n bytes at a place that a crash may tear: any bytes in the range and past the old end, and no other
-- change.
pub record Torn (at n : ℕ) (old new : List ℕ) : Type 0 where
  pub before : (m : ℕ) → m ≤ at → m ≤ length old → take m new ≡ take m old
  pub after : (m : ℕ) → at + n ≤ m → drop m new ≡ drop m old
  pub no_shorter : length old ≤ length new

-- Each new image is an old one after a step.
abbrev pub Follows : (List ℕ → List ℕ → Type 0) → (List ℕ → Type 0) → (List ℕ → Type 0) → Type 0
Follows step old new = (c : List ℕ) → new c → (d : List ℕ) × old d × step d c

-- Each old image after a step is a new one.
abbrev pub Opens : (List ℕ → List ℕ → Type 0) → (List ℕ → Type 0) → (List ℕ → Type 0) → Type 0
Opens step old new = (d c : List ℕ) → old d → step d c → new c

-- These bytes are the only image.
abbrev pub Only : List ℕ → (List ℕ → Type 0) → Type 0
Only bytes images = (c : List ℕ) → images c → c ≡ bytes

-- Exactly these n bytes at a place are unsynced: the images are what is read, torn there.
pub record IsUnsynced (at n : ℕ) (v : View) : Type 0 where
  pub only : (c : List ℕ) → v.images c → Torn at n v.seen c
  pub each : (c : List ℕ) → Torn at n v.seen c → v.images c

-- The same bytes are read, and a crash leaves the same.
pub record IsSame (old new : View) : Type 0 where
  pub seen : new.seen ≡ old.seen
  pub images : (c : List ℕ) → new.images c → old.images c
  pub images_kept : (c : List ℕ) → old.images c → new.images c

-- Nothing has changed except the count of faults.
pub record IsStill (old new : View) : Type 0 where
  pub same : IsSame old new
  pub calls : new.calls ≡ old.calls
  pub off : (k : ℕ) → new.off k ≡ old.off k
  pub refuses : (k : ℕ) → new.refuses k ≡ old.refuses k
  pub torn : new.torn ≡ old.torn
  pub moment : new.moment ≡ old.moment
  pub since : (t : ℕ) (c : List ℕ) → new.since t c → old.since t c
  pub since_kept : (t : ℕ) (c : List ℕ) → old.since t c → new.since t c

-- A crash at each moment from `old` to `new` leaves only contents with P.
pub record LeavesOnly (old new : View) (P : List ℕ → Type 0) : Type 0 where
  pub later : old.moment ≤ new.moment
  pub each : (c : List ℕ) → new.since old.moment c → P c
  pub now : (c : List ℕ) → new.images c → P c
  -- The same for a run that began earlier.
  pub before : (t : ℕ) (c : List ℕ) → t ≤ old.moment → new.since t c → old.since t c ⊎ P c
