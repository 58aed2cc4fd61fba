-- A disk in memory: what it reads, which bytes were written since the last sync, and what is armed.
use Rattle.std.specs.Prelude.{ℕ, ◌+◌, ◌-◌, ◌%◌, ◌≤◌, ◌<◌, ◌≡◌, ◌==◌, List, [], ◌∷◌, ◌++◌, length, get_or, replicate, take, drop, Bool, true, false, nat_le, nat_lt, if◌then◌else◌}
use Rattle.zb_base.specs.Outside.{risen}
use Rattle.zb_disk.specs.declared.memory.Arming.{Arming}
use Rattle.zb_disk.specs.declared.memory.Arming.TheVariants.{Unarmed, Stop, Fail, Stopped}
use Rattle.zb_disk.specs.View.{View, Telling}

-- A disk in memory.
pub record Medium : Type 0 where
  -- The bytes that are read.
  pub bytes : List ℕ
  -- Which of them were written since the last sync.
  pub written : List Bool
  -- How many of them lie past the end that the last sync left.
  pub grown : ℕ
  pub arming : Arming
  -- The bytes that a stop leaves in place of what was written and not synced.
  pub torn : List ℕ
  pub calls : ℕ
  pub faults : ℕ

-- Whether the write or sync of that number from now on is refused. The next one has the number 0.
abbrev pub refuses : Arming → ℕ → Bool
refuses Unarmed k = false
refuses (Stop calls) k = nat_le calls k
refuses (Fail call) k = k + 1 == call
refuses Stopped k = true

-- What is armed after one more write or sync.
abbrev pub after_call : Arming → Arming
after_call Unarmed = Unarmed
after_call (Stop calls) = if calls == 0 then Stopped else Stop (calls - 1)
after_call (Fail call) = Fail (call - 1)
after_call Stopped = Stopped

abbrev pub is_stopped : Arming → Bool
is_stopped Unarmed = false
is_stopped (Stop calls) = false
is_stopped (Fail call) = false
is_stopped Stopped = true

-- Whether it will refuse a write or a sync.
abbrev pub will_refuse : Arming → Bool
will_refuse Unarmed = false
will_refuse (Stop calls) = true
will_refuse (Fail call) = nat_lt 0 call
will_refuse Stopped = true

-- Whether it refuses to read after `k` more writes and syncs were called: a stop has hit one of them.
abbrev pub off_after : Arming → ℕ → Bool
off_after Unarmed k = false
off_after (Stop calls) k = nat_lt calls k
off_after (Fail call) k = false
off_after Stopped k = true

-- A new arming, which a stopped disk ignores.
abbrev pub armed : Arming → Arming → Arming
armed old new = if is_stopped old then old else new

-- What a crash may leave: each written byte and the part past the old end may be anything, all other bytes are
-- unchanged.
pub record IsImage (bytes : List ℕ) (written : List Bool) (grown : ℕ) (c : List ℕ) : Type 0 where
  pub no_shorter : length bytes ≤ length c + grown
  pub no_longer : length c ≤ length bytes
  pub others : (k : ℕ) → k + grown < length bytes → get_or written k false ≡ false → get_or c k 0 ≡ get_or bytes k 0

-- Each longest run of written bytes becomes the pattern, repeated from the first byte of the run. The phase is the
-- number of bytes of the run that came before.
abbrev pub tear : List ℕ → ℕ → List ℕ → List Bool → List ℕ
tear pattern phase [] written = []
tear pattern phase (b ∷ bytes) [] = b ∷ bytes
tear pattern phase (b ∷ bytes) (w ∷ written) =
    if w then get_or pattern (phase % length pattern) 0 ∷ tear pattern (phase + 1) bytes written
    else b ∷ tear pattern 0 bytes written

-- The bytes that a stop leaves: torn if there is a pattern.
abbrev pub torn_by : List ℕ → List ℕ → List Bool → List ℕ
torn_by pattern bytes written = if nat_lt 0 (length pattern) then tear pattern 0 bytes written else bytes

-- The bytes that are read after the power came back.
abbrev pub settled : Medium → List ℕ
settled m = if is_stopped m.arming then torn_by m.torn m.bytes m.written else m.bytes

-- A list extended to a length.
abbrev pub spread : {A : Type 0} → List A → ℕ → A → List A
spread xs n filling = xs ++ replicate (n - length xs) filling

-- A list with a piece put over it from a place on.
abbrev pub patch : {A : Type 0} → List A → ℕ → List A → List A
patch xs start piece = take start xs ++ piece ++ drop (start + length piece) xs

-- A write or a sync was called.
unfoldable pub counted : Medium → Medium
counted m = record m {
  arming = after_call m.arming;
  calls = risen m.calls 1;
  faults = if refuses m.arming 0 then risen m.faults 1 else m.faults;
}

-- A piece was written.
unfoldable pub stored : Medium → ℕ → List ℕ → Medium
stored m at piece = record m {
  bytes = patch (spread m.bytes (at + length piece) 0) at piece;
  written = patch (spread m.written (at + length piece) false) at (replicate (length piece) true);
  grown = m.grown + (at + length piece - length m.bytes);
}

-- Everything is synced.
unfoldable pub synced : Medium → Medium
synced m = record m { written = replicate (length m.written) false; grown = 0 }

-- After a read was called: it is refused while the disk is off.
abbrev pub after_read : Medium → Medium
after_read m = record m { faults = if is_stopped m.arming then risen m.faults 1 else m.faults }

-- After a write and a sync were called: refused, or done.
abbrev pub after_write : Medium → ℕ → List ℕ → Medium
after_write m at piece = if refuses m.arming 0 then counted m else stored (counted m) at piece

abbrev pub after_sync : Medium → Medium
after_sync m = if refuses m.arming 0 then counted m else synced (counted m)

-- The power came back.
unfoldable pub powered : Medium → Medium
powered m = record m {
  bytes = settled m;
  written = replicate (length m.written) false;
  grown = 0;
  arming = if is_stopped m.arming then Unarmed else m.arming;
}

-- A new disk of these bytes.
abbrev pub fresh : List ℕ → Medium
fresh bytes = record {
  bytes = bytes;
  written = replicate (length bytes) false;
  grown = 0;
  arming = Unarmed;
  torn = [];
  calls = 0;
  faults = 0;
}

-- It describes all but its past moments.
abbrev pub memory_tells : Telling
memory_tells = record { content = true; steady = true; past = false; refusals = true }

abbrev pub memory_view : Medium → View
memory_view m = record {
  seen = m.bytes;
  images = IsImage m.bytes m.written m.grown;
  calls = m.calls;
  faults = m.faults;
  off = off_after m.arming;
  refuses = refuses m.arming;
  torn = m.torn;
  moment = 0;
  since = λ t. IsImage m.bytes m.written m.grown;
}
