use Rattle.zb_audit_lockout.proofs.Maps.{marked_early}
use Rattle.zb_audit_lockout.proofs.spread.Spread.mark.Goals as goal

pub returns-clause-devices : goal.returns-clause-devices
returns-clause-devices c =
    marked_early c.args.self.now.devices c.insert.new.self c.args.device c.args.early c.in_ok-insert.ensures.updates.0
