use Rattle.std.proofs.Common.{List, take, sym, subst}
use Rattle.std.proofs.lemmas.List.{take_all}
use Rattle.zb_audit.proofs.Auditing.{taken_more}
use Rattle.zb_audit.specs.Auditing.{Stands}
use Rattle.zb_trace.specs.declared.line.Line.{Line}
use Rattle.zb_audit.proofs.auditor.Auditor.over.Goals as goal

pub loop-line-init : goal.loop-line-init
loop-line-init c = λ tools find. c.in_ok-auditor.ensures tools

pub loop-line-preserved : goal.loop-line-preserved
loop-line-preserved c =
    λ tools find.
    subst (λ (h : List Line). Stands tools c.line.new.self h)
    (sym (taken_more c.args.lines.now c.loop-line.line-index c.line-item.result c.loop-line-test.true
    c.line-item.is))
    (c.in_ok-line.ensures tools (take c.loop-line.line-index c.args.lines.now) find (c.loop-line.invariant tools find))

pub returns : goal.returns
returns c = λ tools find. subst (λ (ls : List Line). Stands tools c.loop-line.auditor ls)
    (take_all c.loop-line.line-index c.args.lines.now c.loop-line-test.false) (c.loop-line.invariant tools find)
