-- What is armed on a node's disk, in the model's words and in those of the disk.
use Rattle.std.specs.Prelude.{ℕ, ◌+◌, ◌≤◌, ◌≡◌, ◌&&◌, Bool, true, false, not, nat_le, nat_lt, if◌then◌else◌}
use Rattle.zb_disk.specs.declared.memory.Arming.TheVariants as disk
use Rattle.zb_disk.specs.declared.memory.Arming.{Arming}
use Rattle.zb_disk.specs.Memory.{Medium, refuses, is_stopped, armed}
use Rattle.zb_model.specs.Play.{Armed, NotArmed, StopAfter, FailAt, Calls, NoCalls, EntryCalls, RecordCalls, BootCalls, count_of}
use Rattle.zb_base.specs.Outside.{risen}
use Rattle.zb_store.specs.Power.{stop_commits, failure_commits}
use Rattle.zb_armed_host.specs.declared.arms.Arms.{Arms}
use Rattle.zb_armed_host.specs.declared.arms.Arms.TheVariants as arms

-- what is armed, in the model's words
abbrev pub armed_of : Arms → Armed
armed_of arms.Unarmed = NotArmed
armed_of (arms.Stop calls torn) = StopAfter calls torn.items
armed_of (arms.Fail call) = FailAt call

-- the device calls are counted from 1 where one of them is to fail
abbrev pub IsArming : Armed → Type 0
IsArming NotArmed = Unit {0}
IsArming (StopAfter calls torn) = Unit {0}
IsArming (FailAt call) = 1 ≤ call

-- a disk on which nothing is armed: it refuses no write and no sync
abbrev pub IsUnarmed : Medium → Type 0
IsUnarmed m = (k : ℕ) → refuses m.arming k ≡ false

-- the arming of a disk once this is armed on it, which a disk that is off doesn't take
abbrev pub arming_on : Armed → Arming → Arming
arming_on NotArmed x = x
arming_on (StopAfter calls torn) x = armed x (disk.Stop calls)
arming_on (FailAt call) x = armed x (disk.Fail call)

-- a disk once this is armed on it
abbrev pub armed_on : Armed → Medium → Medium
armed_on NotArmed m = m
armed_on (StopAfter calls torn) m =
    record m { arming = armed m.arming (disk.Stop calls); torn = if is_stopped m.arming then m.torn else torn }
armed_on (FailAt call) m = record m { arming = armed m.arming (disk.Fail call) }

-- the same of a disk that isn't off
abbrev pub armed_medium : Armed → Medium → Medium
armed_medium NotArmed m = m
armed_medium (StopAfter calls torn) m = record m { arming = disk.Stop calls; torn = torn }
armed_medium (FailAt call) m = record m { arming = disk.Fail call }

-- a disk once this is taken back
abbrev pub disarmed_medium : Armed → Medium → Medium
disarmed_medium NotArmed m = m
disarmed_medium (StopAfter calls torn) m = record m { arming = armed m.arming disk.Unarmed }
disarmed_medium (FailAt call) m = record m { arming = armed m.arming disk.Unarmed }

-- The device calls of a commit: those of a whole record, or of an entry.
abbrev pub commit_of : Bool → Calls
commit_of true = RecordCalls
commit_of false = EntryCalls

-- whether a commit stands on which this fell
abbrev pub arms_stand : Armed → Bool
arms_stand NotArmed = false
arms_stand (StopAfter calls torn) = stop_commits calls torn
arms_stand (FailAt call) = failure_commits call

-- whether what is armed falls on one of the first `made` calls of a disk that is off, or isn't
abbrev pub falls_within : Armed → Bool → ℕ → Bool
falls_within NotArmed was_off made = false
falls_within (StopAfter calls torn) was_off made = not was_off && nat_lt calls made
falls_within (FailAt call) was_off made = not was_off && nat_lt 0 call && nat_le call made

-- the same as a disk shows it after the calls: by whether it is off now, and will refuse a further call
abbrev pub fired_seen : Armed → Bool → Bool → Bool → Bool
fired_seen NotArmed was_off is_off refuses_more = false
fired_seen (StopAfter calls torn) was_off is_off refuses_more = not was_off && is_off
fired_seen (FailAt call) was_off is_off refuses_more = not was_off && nat_lt 0 call && not refuses_more

-- the count of a disk's calls after these; it stops at 2^64 - 1
abbrev pub calls_after : ℕ → Calls → ℕ
calls_after count NoCalls = count
calls_after count EntryCalls = risen count (count_of EntryCalls)
calls_after count RecordCalls = risen count (count_of RecordCalls)
calls_after count (BootCalls both) = risen count (count_of (BootCalls both))

-- how many device calls are made where it falls, the refused one among them
abbrev pub fallen_calls : Armed → ℕ
fallen_calls NotArmed = 0
fallen_calls (StopAfter calls torn) = calls + 1
fallen_calls (FailAt call) = call
