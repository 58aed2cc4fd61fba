use Rattle.std.proofs.Common.{List, subst}
use Rattle.std.proofs.lemmas.List.{drop_all, drop_more}
use Rattle.zb_audit_lockout.specs.Facts.{Recalls}
use Rattle.zb_audit_lockout.specs.declared.fact.Fact.{Fact}
use Rattle.zb_audit_lockout.proofs.Recalling.{recalls_next}
use Rattle.zb_audit_lockout.proofs.past.learn_all.Goals as goal

pub loop-fact-preserved : goal.loop-fact-preserved
loop-fact-preserved c =
    λ tools names h r.
    recalls_next tools names c.loop-fact.before c.learn.new.self _ _ h
    (subst (λ (facts : List Fact). Recalls tools names c.loop-fact.before facts h)
    (drop_more c.args.facts.now c.loop-fact.fact-index _ c.loop-fact-test.true)
    (c.loop-fact.invariant tools names h r)) c.in_ok-learn.ensures

pub returns : goal.returns
returns c =
    λ tools names h r.
    subst (λ (facts : List Fact). Recalls tools names c.loop-fact.before facts h)
    (drop_all c.loop-fact.fact-index c.args.facts.now c.loop-fact-test.false)
    (c.loop-fact.invariant tools names h r)
