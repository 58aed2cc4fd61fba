-- The auditor represents the lines so far.
use Rattle.std.proofs.Common.{take}
use Rattle.zb_audit.specs.Auditing.{Stands}
use Rattle.zb_model.specs.Tools.{Tools}
use Rattle.zb_trace_watch.specs.Standing.{FindKeys}
use Rattle.zb_audit.proofs.auditor.Auditor.over.Given as goal

abbrev pub invariant-loop-line : goal.invariant-loop-line
invariant-loop-line l = (tools : Tools) → FindKeys tools → Stands tools l.auditor (take l.line-index l.lines)
