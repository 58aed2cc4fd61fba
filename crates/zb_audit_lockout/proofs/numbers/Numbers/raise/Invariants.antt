-- Each key that is raised adds the keys that it leads to, once.
use Rattle.std.proofs.Common.{◌+◌, length}
use Rattle.zb_audit_lockout.proofs.Left.{left_of}
use Rattle.zb_audit_lockout.proofs.Raised.{Raising, is_high}
use Rattle.zb_audit_lockout.proofs.numbers.Numbers.raise.Given as goal

abbrev pub invariant-loop-key : goal.invariant-loop-key
invariant-loop-key l = Raising l.leads l.fn.self l.self l.fn.keys.items l.keys.items l.number l.raised.items

abbrev pub decreases-loop-key : goal.decreases-loop-key
decreases-loop-key l = left_of (is_high l.self l.number) l.leads.sets.entries + length l.keys.items
