use Rattle.zb_base.specs.declared.key.Key.{Key}
use Rattle.zb_trace_watch.proofs.origins.Origins.new.Goals as goal

pub returns-clause-carriers : goal.returns-clause-carriers
returns-clause-carriers c = λ k b. let o : Key = record { 0 = k } in c.new-4.ensures o b
