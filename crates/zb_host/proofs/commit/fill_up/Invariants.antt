use Rattle.std.proofs.Common.{◌≡◌, ◌*◌, ◌≤◌, length, vec_capacity}
use Rattle.zb_base.specs.Sizes.{record_room}
use Rattle.zb_host.proofs.commit.fill_up.Given as goal

abbrev pub invariant-loop : goal.invariant-loop
invariant-loop l = (length l.room.items ≡ 1024 * l.counter) × (record_room ≤ vec_capacity l.room)
