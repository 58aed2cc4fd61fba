-- A disk has room for all that its calls write.
use Rattle.std.proofs.Common.{◌≡◌, ◌≤◌, ◌+◌, ℕ, List, length, Bool, true, false, arith, sym, subst, cond}
use Rattle.zb_disk.specs.Memory.{Medium, after_sync, after_write, counted, refuses, stored, synced}
use Rattle.zb_disk.proofs.Images.{stored_is}
use Rattle.tc_c_centre.specs.Outside.{HasRoom}

counted_room : (m : Medium) → HasRoom m.bytes → HasRoom (counted m).bytes
unfolding counted
counted_room m room = room

synced_room : (m : Medium) → HasRoom m.bytes → HasRoom (synced m).bytes
unfolding synced
synced_room m room = room

stored_room : (m : Medium) (at : ℕ) (piece : List ℕ) → at + length piece ≤ 131072 → HasRoom m.bytes
    → HasRoom (stored m at piece).bytes
stored_room m at piece within room = let size = (stored_is m at piece).size in omega arith

-- after a write and a sync that were asked for
written_by : (b : Bool) (m : Medium) (at : ℕ) (piece : List ℕ) → at + length piece ≤ 131072 → HasRoom m.bytes
    → HasRoom (cond b (counted m) (stored (counted m) at piece)).bytes
written_by true m at piece within room = counted_room m room
written_by false m at piece within room = stored_room (counted m) at piece within (counted_room m room)

pub room_after_write : (old new : Medium) (at : ℕ) (piece : List ℕ) → at + length piece ≤ 131072
    → new ≡ after_write old at piece → HasRoom old.bytes → HasRoom new.bytes
room_after_write old new at piece within is room =
    subst (λ (m : Medium). HasRoom m.bytes) (sym is) (written_by (refuses old.arming 0) old at piece within room)

synced_by : (b : Bool) (m : Medium) → HasRoom m.bytes → HasRoom (cond b (counted m) (synced (counted m))).bytes
synced_by true m room = counted_room m room
synced_by false m room = synced_room (counted m) (counted_room m room)

pub room_after_sync : (old new : Medium) → new ≡ after_sync old → HasRoom old.bytes → HasRoom new.bytes
room_after_sync old new is room =
    subst (λ (m : Medium). HasRoom m.bytes) (sym is) (synced_by (refuses old.arming 0) old room)
