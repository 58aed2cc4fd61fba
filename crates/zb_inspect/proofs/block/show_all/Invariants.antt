use Rattle.std.proofs.Common.{◌≡◌, ◌-◌, ◌≤◌, take, drop, vec_len}
use Rattle.zb_inspect.specs.Rings.{frames_shown}
use Rattle.zb_inspect.proofs.block.show_all.Given as goal

abbrev pub invariant-loop-seen : goal.invariant-loop-seen
invariant-loop-seen l = record {
  seen : l.seen.items ≡ frames_shown l.addrs l.keys (take (vec_len l.seen) (drop l.from l.frames));
  within : vec_len l.seen ≤ l.count;
}

abbrev pub decreases-loop-seen : goal.decreases-loop-seen
decreases-loop-seen l = l.count - vec_len l.seen
