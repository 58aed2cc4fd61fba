use Rattle.zb_audit_lockout.proofs.Telling.{removed_so}
use Rattle.zb_audit_lockout.proofs.reach.Reach.remove.Goals as goal

pub returns : goal.returns
returns c =
    removed_so c.args.self.now c.remove.new.self c.enter.new.self c.args.device.0 c.args.number c.earliness.result _
    c.in_ok-remove.ensures.found c.in_ok-remove.ensures.last c.in_ok-remove.ensures.small c.earliness.ensures
    c.in_ok-enter.ensures
