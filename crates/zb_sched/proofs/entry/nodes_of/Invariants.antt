use Rattle.std.proofs.Common.{◌≡◌, map}
use Rattle.zb_sched.proofs.entry.nodes_of.Given as goal

abbrev pub invariant-loop-entry : goal.invariant-loop-entry
invariant-loop-entry l = l.nodes.items ≡ map (λ entry. entry.node) l.yielded
