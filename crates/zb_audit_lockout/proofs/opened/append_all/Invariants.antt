-- What is in the list, and what is left of the order, are together what was in both.
use Rattle.std.proofs.Common.{◌≡◌, ◌++◌}
use Rattle.zb_audit_lockout.proofs.opened.append_all.Given as goal

abbrev pub invariant-loop-opening : goal.invariant-loop-opening
invariant-loop-opening l = l.list.items ++ l.opening-iterator ≡ l.fn.list.items ++ l.order.keys
