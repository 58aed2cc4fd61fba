use Rattle.std.proofs.Common.{◌∙◌}
use Rattle.zb_audit_lockout.proofs.Unmarking.{withdraws_all}
use Rattle.zb_audit_lockout.proofs.spread.Spread.forget.Goals as goal

pub returns-in_ok-openings : goal.returns-in_ok-openings
returns-in_ok-openings c =
    withdraws_all c.args.windows.now c.args.back.now c.args.self.now c.unmark_all.new.self c.args.keys.now _
    c.unmark_all.ensures.keys c.unmark_all.ensures.devices c.in_ok-openings.ensures

pub returns-in_ok-openings-2 : goal.returns-in_ok-openings-2
returns-in_ok-openings-2 c = c.in_ok-openings-2.ensures (λ is. c.if-of-eq0.false (c.of.ensures ∙ is))
