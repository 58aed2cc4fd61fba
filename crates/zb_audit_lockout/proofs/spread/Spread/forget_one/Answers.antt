use Rattle.zb_audit_lockout.proofs.Unmarking.{unmarked}
use Rattle.zb_audit_lockout.proofs.spread.Spread.forget_one.Goals as goal

pub returns : goal.returns
returns c =
    unmarked c.args.windows.now c.args.self.now c.unmark.new.self c.args.opened.now c.note_open.new.opened
    c.args.device.0 c.unmark.ensures.keys c.unmark.ensures.devices c.in_ok-note_open.ensures
