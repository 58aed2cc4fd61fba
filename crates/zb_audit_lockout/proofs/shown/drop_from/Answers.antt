use Rattle.std.proofs.Common.{sym, ◌∙◌}
use Rattle.zb_audit_lockout.proofs.Maps.{dropped_key}
use Rattle.zb_audit_lockout.proofs.shown.drop_from.Goals as goal

pub returns-in_ok-insert-in-Some : goal.returns-in_ok-insert-in-Some
returns-in_ok-insert-in-Some c =
    dropped_key c.args.keys.now.sets c.remove.new.self c.insert.new.self c.args.place c.args.key c.in-Some.set
    c.remove-in-Some.new.self (sym c.remove.ensures.value ∙ c.in-Some.is)
    c.remove-in-Some.ensures.updates.0 c.remove.ensures.updates.0 c.in_ok-insert-in-Some.ensures.updates.0
