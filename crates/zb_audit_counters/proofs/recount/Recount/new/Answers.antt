use Rattle.std.proofs.Common.{refl}
use Rattle.zb_audit_counters.proofs.Running.{none_recounted}
use Rattle.zb_audit_counters.proofs.recount.Recount.new.Goals as goal

pub returns : goal.returns
returns c = λ names. none_recounted names _ c.new.ensures.empty c.new-2.ensures.items refl refl refl refl refl
