use Rattle.std.proofs.Common.{sym}
use Rattle.zb_audit_lockout.proofs.Maps.{taken_out}
use Rattle.zb_audit_lockout.proofs.Order.{taken}
use Rattle.zb_audit_lockout.proofs.opened.Opened.remove.Goals as goal

pub invariant_of-self : goal.invariant_of-self
invariant_of-self c =
    taken c.self.inside.numbers c.remove.new.self c.self.inside.order c.remove-in-Some.new.self c.args.device
    c.in-Some.number c.self.invariant (sym c.in-Some.ensures.value)
    c.remove-in-Some.ensures.updates.0 c.remove.ensures.updates.0

pub returns-in-Some : goal.returns-in-Some
returns-in-Some c =
    rw (sym c.self.view_is)
    (taken_out c.self.inside.numbers c.remove.new.self c.args.device c.remove.ensures.updates.0)
