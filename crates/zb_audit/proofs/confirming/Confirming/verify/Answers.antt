use Rattle.std.proofs.Common.{sym}
use Rattle.zb_audit.proofs.ConfirmedKeys.{row_written}
use Rattle.zb_trace_watch.proofs.Declaring.{nothing_there}
use Rattle.zb_audit.proofs.confirming.Confirming.verify.Goals as goal

pub returns-in_ok-insert-clause-rows : goal.returns-in_ok-insert-clause-rows
returns-in_ok-insert-clause-rows c =
    row_written c.args.self.now.verified c.insert.new.self c.args.partner c.args.key c.args.number c.args.is_centre
    c.if-is_centre.true
    (nothing_there _ (sym c.if-not-contains_key.ensures)) c.in_ok-insert.ensures.updates.0
