use Rattle.zb_audit_lockout.proofs.Maps.{given_number}
use Rattle.zb_audit_lockout.proofs.numbers.Numbers.set.Goals as goal

pub returns : goal.returns
returns c = given_number c.args.self.now c.insert.new.self c.args.key c.args.number c.in_ok-insert.ensures.updates.0
