-- The keys up to the loop's place are in the list, or aren't late.
use Rattle.zb_audit_lockout.proofs.Checking.{Sifting}
use Rattle.zb_audit_lockout.proofs.reach.Reach.late_ones.Given as goal

abbrev pub invariant-loop-key : goal.invariant-loop-key
invariant-loop-key l = Sifting l.self l.keys l.late.items l.key-index
