-- Each key that is cleared adds the keys that lead to it, once.
use Rattle.std.proofs.Common.{◌+◌, length}
use Rattle.zb_audit_lockout.proofs.Clearing.{Clearing, is_clear}
use Rattle.zb_audit_lockout.proofs.Left.{left_of}
use Rattle.zb_audit_lockout.proofs.numbers.Numbers.clear.Given as goal

abbrev pub invariant-loop-key : goal.invariant-loop-key
invariant-loop-key l = Clearing l.bases l.fn.self l.self l.fn.keys.items l.keys.items l.cleared.items

abbrev pub decreases-loop-key : goal.decreases-loop-key
decreases-loop-key l = left_of (is_clear l.self) l.bases.sets.entries + length l.keys.items
