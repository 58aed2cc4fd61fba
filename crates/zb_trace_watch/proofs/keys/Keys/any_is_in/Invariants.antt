-- The keys that are left decide.
use Rattle.std.proofs.Common.{◌≡◌}
use Rattle.zb_trace_watch.specs.Sets.{meet}
use Rattle.zb_trace_watch.proofs.keys.Keys.any_is_in.Given as goal

abbrev pub invariant-loop-key : goal.invariant-loop-key
invariant-loop-key l = meet l.key-iterator l.other.keys.keys ≡ meet l.self.keys.keys l.other.keys.keys
