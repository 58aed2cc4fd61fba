-- After the seals that are left none is late.
use Rattle.std.proofs.Common.{◌≡◌, ◌≤◌, drop, length, false}
use Rattle.zb_audit_lockout.specs.Reading.{some_late}
use Rattle.zb_audit_lockout.proofs.evidence.up_to_open.Given as goal

abbrev pub invariant-loop-count : goal.invariant-loop-count
invariant-loop-count l = (l.count ≤ length l.seals) × (some_late l.windows (drop l.count l.seals) ≡ false)

abbrev pub decreases-loop-count : goal.decreases-loop-count
decreases-loop-count l = l.count
