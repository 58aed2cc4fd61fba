-- The devices up to the loop's place are entered, and no key that comes out for them was drawn since.
use Rattle.zb_audit_lockout.proofs.Checking.{Entering}
use Rattle.zb_audit_lockout.proofs.reach.Reach.try_all.Given as goal

abbrev pub invariant-loop-opening : goal.invariant-loop-opening
invariant-loop-opening l = Entering l.fn.self l.self l.openings l.opening-index
