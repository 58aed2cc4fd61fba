use Rattle.std.proofs.Common.{List, sym, subst}
use Rattle.zb_audit_lockout.specs.Facts.{Recalls}
use Rattle.zb_audit_lockout.specs.declared.fact.Fact.{Fact}
use Rattle.zb_audit_lockout.proofs.past.Past.end_group.Goals as goal

pub returns-clause-recalls : goal.returns-clause-recalls
returns-clause-recalls c =
    λ tools names h r. c.in_ok-learn_all.ensures tools names h
    (subst (λ (facts : List Fact). Recalls tools names c.args.self.now.before facts h) (sym c.deref.ensures.value)
    r)
