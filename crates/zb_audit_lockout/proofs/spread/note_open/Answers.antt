use Rattle.std.proofs.Common.{sym, ◌∙◌}
use Rattle.zb_audit_lockout.proofs.Order.{noted_none, noted_open}
use Rattle.zb_audit_lockout.proofs.spread.note_open.Goals as goal

pub returns-in_ok-insert-in-Some : goal.returns-in_ok-insert-in-Some
returns-in_ok-insert-in-Some c =
    noted_open c.args.opened.now c.insert.new.self c.args.device c.in-Some.number c.args.windows.now.removals
    (sym c.number.ensures ∙ c.in-Some.is) c.in_ok-insert-in-Some.ensures.updates.0

pub returns-in-None : goal.returns-in-None
returns-in-None c =
    noted_none c.args.opened.now c.args.device c.args.windows.now.removals (sym c.number.ensures ∙ c.in-None.is)
