use Rattle.zb_audit_lockout.proofs.Maps.{unmarked_early}
use Rattle.zb_audit_lockout.proofs.spread.Spread.unmark.Goals as goal

pub returns-clause-devices : goal.returns-clause-devices
returns-clause-devices c =
    unmarked_early c.args.self.now.devices c.remove.new.self c.args.device.now c.remove.ensures.updates.0
