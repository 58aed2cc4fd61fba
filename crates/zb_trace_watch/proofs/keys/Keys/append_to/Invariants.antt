-- What is in the list, and what is left of the set, are together what was in both.
use Rattle.std.proofs.Common.{◌≡◌, ◌++◌}
use Rattle.zb_trace_watch.proofs.keys.Keys.append_to.Given as goal

abbrev pub invariant-loop-key : goal.invariant-loop-key
invariant-loop-key l = l.list.items ++ l.key-iterator ≡ l.fn.list.items ++ l.self.keys.keys
