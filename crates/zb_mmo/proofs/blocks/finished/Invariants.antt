use Rattle.std.proofs.Common.{◌≡◌, ◌+◌, ◌*◌, ◌++◌, drop, length}
use Rattle.zb_mmo.specs.Hash.{blocks_of, mixed_all, padding}
use Rattle.zb_mmo.proofs.blocks.finished.Given as goal

-- what is left gives the result
abbrev pub invariant-loop-i : goal.invariant-loop-i
invariant-loop-i l =
    mixed_all l.value (blocks_of (drop (16 * l.i) l.bytes ++ padding (l.before + length l.bytes)))
    ≡ mixed_all l.initial.value (blocks_of (l.bytes ++ padding (l.before + length l.bytes)))
