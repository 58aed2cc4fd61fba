use Rattle.std.proofs.Common.{ap, not, ◌∙◌}
use Rattle.std.specs.List.{list_any}
use Rattle.zb_base.specs.declared.key.Key.{Key}
use Rattle.zb_audit_lockout.specs.Reading.{is_late}
use Rattle.zb_audit_lockout.proofs.Telling.{tries}
use Rattle.zb_audit_lockout.proofs.reach.Reach.try_one.Goals as goal

pub returns-clause-tried : goal.returns-clause-tried
returns-clause-tried c =
    tries c.args.self.now c.enter.new.self c.args.opening.now c.earliness-early.result c.in_ok-raised.raised.items _
    c.earliness-early.ensures c.in_ok-raised.ensures
    (ap not
    (c.any_late.ensures
    ∙ ap (list_any (λ (key : Key). is_late c.args.self.now.drawn c.earliness-early.result key.0))
    c.deref.ensures.value))
