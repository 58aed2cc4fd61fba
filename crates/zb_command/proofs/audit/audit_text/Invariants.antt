-- The lines so far were audited, and each has taken some bytes.
use Rattle.std.proofs.Common.{◌+◌, ◌≤◌, ◌<◌, ◌^◌, length}
use Rattle.zb_command.specs.Auditing.{IsAudited}
use Rattle.zb_command.proofs.audit.audit_text.Given as goal

abbrev pub invariant-loop-rest : goal.invariant-loop-rest
invariant-loop-rest l =
    IsAudited l.text l.rest l.count l.auditor × (l.count + length l.rest ≤ length l.text) × (length l.text < 2 ^ 32)

abbrev pub decreases-loop-rest : goal.decreases-loop-rest
decreases-loop-rest l = length l.rest
