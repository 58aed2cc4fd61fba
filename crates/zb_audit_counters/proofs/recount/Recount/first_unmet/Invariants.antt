-- The lines before are met.
use Rattle.std.proofs.Common.{◌≡◌, drop}
use Rattle.zb_audit_counters.specs.Recounting.{first_unmet_by}
use Rattle.zb_audit_counters.proofs.recount.Recount.first_unmet.Given as goal

abbrev pub invariant-loop-wait : goal.invariant-loop-wait
invariant-loop-wait l = first_unmet_by l.self (drop l.wait-index l.waits) ≡ first_unmet_by l.self l.self.waits.items
