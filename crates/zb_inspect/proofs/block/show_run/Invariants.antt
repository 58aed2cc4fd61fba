use Rattle.std.proofs.Common.{◌≡◌, ◌++◌, take}
use Rattle.zb_inspect.specs.Rings.{frames_shown}
use Rattle.zb_inspect.proofs.block.show_run.Given as goal

abbrev pub invariant-loop-i : goal.invariant-loop-i
invariant-loop-i l = l.seen.items ≡ l.initial.seen.items ++ frames_shown l.addrs l.keys (take l.i l.run)
