use Rattle.std.proofs.Common.{[], ◌++◌}
use Rattle.zb_audit_names.specs.Naming.{names_in}
use Rattle.zb_audit.proofs.Auditing.{faults_are}
use Rattle.zb_audit.proofs.auditor.Auditor.first_fault.Goals as goal

pub returns : goal.returns
returns c =
    λ tools h stands.
    faults_are tools h _ _ _ _ _ _ _ _ _ _ _ _ stands.nonces.first (stands.at []).taking.first stands.confirming.first
    (c.end-2.ensures (names_in (h ++ [])) h (stands.at []).recount)
    (c.unlocked.ensures tools h stands) (c.end.ensures tools h stands.ending) c.sooner.ensures
    c.sooner-first-5.ensures c.sooner-first-4.ensures c.sooner-first-3.ensures c.sooner-first-2.ensures
    c.sooner-first.ensures
