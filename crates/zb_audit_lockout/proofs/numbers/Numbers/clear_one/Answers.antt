use Rattle.zb_audit_lockout.proofs.Maps.{cleared_number}
use Rattle.zb_audit_lockout.proofs.numbers.Numbers.clear_one.Goals as goal

pub returns-clause-numbers : goal.returns-clause-numbers
returns-clause-numbers c =
    cleared_number c.args.self.now c.remove.new.self c.args.key.now c.remove.ensures.updates.0
