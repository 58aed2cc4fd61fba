use Rattle.zb_base.specs.declared.address.Eui.{Eui}
use Rattle.zb_base.specs.declared.key.Key.{Key}
use Rattle.zb_audit_lockout.proofs.reach.Reach.new.Goals as goal

pub returns-clause-leads : goal.returns-clause-leads
returns-clause-leads c = λ b k. let o : Key = record { 0 = b } in c.new-2.ensures o k

pub returns-clause-held : goal.returns-clause-held
returns-clause-held c = λ d k. let o : Eui = record { 0 = d } in c.new-3.ensures o k
