use Rattle.zb_audit.proofs.ConfirmedKeys.{row_dropped}
use Rattle.zb_audit.proofs.confirming.Confirming.unsettle.Goals as goal

pub returns-then-is_centre-clause-rows : goal.returns-then-is_centre-clause-rows
returns-then-is_centre-clause-rows c = row_dropped c.args.self.now.verified c.remove.new.self c.args.partner
    c.args.key c.args.is_centre c.if-is_centre.true (c.remove.ensures.updates.0)
