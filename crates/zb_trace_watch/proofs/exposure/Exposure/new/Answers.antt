use Rattle.std.proofs.Common.{refl}
use Rattle.zb_base.specs.declared.address.Eui.{Eui}
use Rattle.zb_base.specs.declared.key.Key.{Key}
use Rattle.zb_trace_watch.proofs.Settling.{settled_at_first, none_removed}
use Rattle.zb_trace_watch.proofs.exposure.Exposure.new.Goals as goal

pub returns-clause-settled : goal.returns-clause-settled
returns-clause-settled c = settled_at_first _ c.new.result _ refl c.new.ensures
    (none_removed c.new-4.result c.new-4.ensures.empty) c.in_ok-learn_one.ensures

pub returns-clause-ever : goal.returns-clause-ever
returns-clause-ever c = λ d k. let o : Eui = record { 0 = d } in c.new-3.ensures o k

pub returns-clause-carried : goal.returns-clause-carried
returns-clause-carried c = λ b k. let o : Key = record { 0 = b } in c.new-2.ensures o k
