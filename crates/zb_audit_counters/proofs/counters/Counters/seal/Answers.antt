use Rattle.std.proofs.Common.{refl}
use Rattle.zb_base.specs.declared.label.Layer.TheVariants.{Nwk}
use Rattle.zb_audit_counters.proofs.Hearing.{seal_here}
use Rattle.zb_audit_counters.proofs.counters.Counters.seal.Goals as goal

pub returns-in-Nwk-clause-heard : goal.returns-in-Nwk-clause-heard
returns-in-Nwk-clause-heard c = seal_here c.args.group 0 c.args.term.now Nwk c.seal_nwk.result c.args.self.now
    c.seal_nwk.new.self c.in-Nwk.is c.seal_nwk.ensures.heard

pub returns-in-Aps-clause-judged : goal.returns-in-Aps-clause-judged
returns-in-Aps-clause-judged c = rw c.in-Aps.is (c.seal_aps.ensures.judged c.args.term.now.base)

pub returns-in-Aps-clause-heard : goal.returns-in-Aps-clause-heard
returns-in-Aps-clause-heard c = λ number e m. c.seal_aps.ensures.heard number e m c.args.term.now c.in-Aps.is refl
