use Rattle.std.proofs.Common.{List, drop, refl, ap, sym, ◌∙◌}
use Rattle.zb_audit_lockout.specs.Reading.{some_late}
use Rattle.zb_audit_lockout.specs.declared.evidence.LateSeal.{LateSeal}
use Rattle.zb_audit_lockout.proofs.Forgetting.{forgets}
use Rattle.zb_audit_lockout.proofs.evidence.Evidence.is_late.Goals as goal

pub returns-clause-forgets : goal.returns-clause-forgets
returns-clause-forgets c =
    forgets c.args.windows.now c.args.self.now _ c.args.term.now c.up_to_open-count.result refl
    c.in_ok-keep.ensures.kept c.in_ok-keep.ensures.others
    (ap (λ (seals : List LateSeal). some_late c.args.windows.now (drop c.up_to_open-count.result seals))
    (sym c.at.ensures) ∙ c.up_to_open-count.ensures.behind)
