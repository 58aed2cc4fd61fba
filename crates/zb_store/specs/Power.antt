-- What stands on a disk in memory once the power is back, after a stop or a failure inside a commit.
use Rattle.std.specs.Prelude.{ℕ, ◌+◌, ◌≤◌, ◌<◌, ◌≡◌, ◌==◌, ◌&&◌, ◌||◌, List, [], ◌∷◌, Bool, true, false, nat_lt, if◌then◌else◌}
use Rattle.zb_base.specs.Outside.{risen}
use Rattle.zb_disk.specs.Memory.{Medium, is_stopped, will_refuse}
use Rattle.zb_store.specs.Layout.{open_gate}

-- Whether the one gate that is unsynced then reads open: by the first byte that the stop leaves, or as it was written
-- where the stop leaves none.
abbrev pub reads_open : List ℕ → ℕ → Bool
reads_open [] written = written == open_gate
reads_open (b ∷ torn) written = b == open_gate

-- whether a commit stands that a stop ended after that many writes and syncs
abbrev pub stop_commits : ℕ → List ℕ → Bool
stop_commits calls torn = if calls == 3 then reads_open torn open_gate else nat_lt 3 calls

-- whether one stands whose write or sync of that number failed, counted from 1
abbrev pub failure_commits : ℕ → Bool
failure_commits call = nat_lt 3 call

-- whether the gates of both slots are open after a `put` that a stop ended, or a failure
abbrev pub stop_opens_both : ℕ → List ℕ → Bool
stop_opens_both calls torn = if calls == 3 then reads_open torn open_gate
    else (if calls == 4 then true else (calls == 5 && reads_open torn 0))

abbrev pub failure_opens_both : ℕ → Bool
failure_opens_both call = call == 4 || call == 5

-- the same after an `open` that found both open
abbrev pub open_stop_leaves_both : ℕ → List ℕ → Bool
open_stop_leaves_both calls torn = if calls == 2 then reads_open torn 0 else true

abbrev pub open_failure_leaves_both : ℕ → Bool
open_failure_leaves_both call = nat_lt call 3

-- An armed stop fell within a run of writes and syncs: `calls` went through, the next one was refused, and the disk is
-- off.
pub record StopFell (calls run : ℕ) (old new : Medium) : Type 0 where
  pub within : calls < run
  pub made : new.calls ≡ risen old.calls (calls + 1)
  pub off : is_stopped new.arming ≡ true

-- An armed failure fell within one: on the call of its number, counted from 1. The disk isn't off, and refuses no
-- further call.
pub record FailureFell (call run : ℕ) (old new : Medium) : Type 0 where
  pub first : 1 ≤ call
  pub within : call ≤ run
  pub made : new.calls ≡ risen old.calls call
  pub on : is_stopped new.arming ≡ false
  pub spent : will_refuse new.arming ≡ false
