use Rattle.std.proofs.Common.{◌≡◌, ◌++◌, take, drop, length}
use Rattle.zb_inspect.specs.Rings.{frames_shown}
use Rattle.zb_inspect.proofs.block.refresh_all.Given as goal

abbrev pub invariant-loop-i : goal.invariant-loop-i
invariant-loop-i l =
    l.seen ≡ frames_shown l.addrs l.keys (take l.i (take (length l.initial.seen) (drop l.from l.frames)))
    ++ frames_shown l.addrs (take l.known l.keys) (drop l.i (take (length l.initial.seen) (drop l.from l.frames)))
