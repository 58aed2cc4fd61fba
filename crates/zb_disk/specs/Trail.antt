-- A disk in memory that keeps each write and sync. So it describes what a crash at any moment could have left.
use Rattle.std.specs.Prelude.{ℕ, ◌+◌, ◌≤◌, ◌≡◌, ◌&&◌, List, [], ◌∷◌, length, take, drop, Bool, true, false, nat_le, nat_lt, if◌then◌else◌}
use Rattle.zb_base.specs.Outside.{risen}
use Rattle.zb_disk.specs.declared.trail.Logged.{Logged}
use Rattle.zb_disk.specs.declared.trail.Logged.TheVariants.{Wrote, Synced}
use Rattle.zb_disk.specs.View.{View, Telling, Torn, overwrite}

-- One call that succeeded.
pub data Step : Type 0 where
  writes : ℕ → List ℕ → Step
  syncs : Step

-- A disk with its calls, the newest first, and the room that it was given.
pub record Trail : Type 0 where
  pub start : List ℕ
  pub steps : List Step
  pub calls_room : ℕ
  pub bytes_room : ℕ
  pub taken : ℕ
  pub calls : ℕ
  pub faults : ℕ

-- What is read after these steps.
abbrev pub replayed : List ℕ → List Step → List ℕ
replayed start [] = start
replayed start (writes at bytes ∷ steps) = overwrite (replayed start steps) at bytes
replayed start (syncs ∷ steps) = replayed start steps

-- What a crash after these steps may leave.
abbrev pub LeftAfter : List ℕ → List Step → List ℕ → Type 0
LeftAfter start [] c = c ≡ start
LeftAfter start (writes at bytes ∷ steps) c = (d : List ℕ) × LeftAfter start steps d × Torn at (length bytes) d c
LeftAfter start (syncs ∷ steps) c = c ≡ replayed start steps

abbrev pub trail_tells : Telling
trail_tells = record { content = true; steady = true; past = true; refusals = false }

abbrev pub trail_view : Trail → View
trail_view t = record {
  seen = replayed t.start t.steps;
  images = LeftAfter t.start t.steps;
  calls = t.calls;
  faults = t.faults;
  off = λ k. false;
  refuses = λ k. false;
  torn = [];
  moment = length t.steps;
  since = λ m c. (k : ℕ) × (k + m ≤ length t.steps) × LeftAfter t.start (drop k t.steps) c;
}

-- A new disk.
abbrev pub fresh_trail : List ℕ → ℕ → ℕ → Trail
fresh_trail bytes calls room =
    record { start = bytes; steps = []; calls_room = calls; bytes_room = room; taken = 0; calls = 0; faults = 0 }

-- The steps that a log and the bytes of all its writes represent, the oldest first.
abbrev pub steps_of : List Logged → List ℕ → List Step
steps_of [] pool = []
steps_of (Wrote at len ∷ log) pool = writes at (take len pool) ∷ steps_of log (drop len pool)
steps_of (Synced ∷ log) pool = syncs ∷ steps_of log pool

-- How many bytes the writes of a log have.
abbrev pub total : List Logged → ℕ
total [] = 0
total (Wrote at len ∷ log) = len + total log
total (Synced ∷ log) = total log

-- Whether there is room for one more call, which writes `len` bytes.
abbrev pub has_room : Trail → ℕ → Bool
has_room t len = nat_lt (length t.steps) t.calls_room && nat_le (t.taken + len) t.bytes_room

-- After a refused call, and after a write and a sync that were kept.
unfoldable pub refused : Trail → Trail
refused t = record t { calls = risen t.calls 1; faults = risen t.faults 1 }

unfoldable pub kept_write : Trail → ℕ → List ℕ → Trail
kept_write t at bytes =
    record t { steps = writes at bytes ∷ t.steps; taken = t.taken + length bytes; calls = risen t.calls 1 }

unfoldable pub kept_sync : Trail → Trail
kept_sync t = record t { steps = syncs ∷ t.steps; calls = risen t.calls 1 }

-- After a write and a sync were called.
abbrev pub after_write : Trail → ℕ → List ℕ → Trail
after_write t at bytes = if has_room t (length bytes) then kept_write t at bytes else refused t

abbrev pub after_sync : Trail → Trail
after_sync t = if has_room t 0 then kept_sync t else refused t
