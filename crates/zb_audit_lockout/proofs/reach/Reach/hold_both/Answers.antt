use Rattle.zb_audit_lockout.proofs.Telling.{both_tell, first_tells}
use Rattle.zb_audit_lockout.proofs.reach.Reach.hold_both.Goals as goal

pub returns-then-firsts-clause-tells : goal.returns-then-firsts-clause-tells
returns-then-firsts-clause-tells c =
    both_tell c.args.self.now c.hold.new.self c.hold-2.new.self c.in_ok-firsts.firsts c.in_ok-seconds.seconds
    c.in_ok-firsts.ensures.tells c.in_ok-seconds.ensures.tells c.if-firsts.true

pub returns-else-firsts-clause-tells : goal.returns-else-firsts-clause-tells
returns-else-firsts-clause-tells c =
    first_tells c.args.self.now c.hold.new.self c.hold-2.new.self c.in_ok-firsts.firsts _ c.in_ok-firsts.ensures.tells
    c.in_ok-seconds.ensures.holds c.if-firsts.false
