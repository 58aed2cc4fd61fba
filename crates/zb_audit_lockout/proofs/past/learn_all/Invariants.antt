-- What is known and the facts that are left are what the lines say.
use Rattle.std.proofs.Common.{List, drop}
use Rattle.zb_audit_lockout.specs.Facts.{Recalls}
use Rattle.zb_model.specs.Data.{Bytes}
use Rattle.zb_model.specs.Tools.{Tools}
use Rattle.zb_trace.specs.declared.line.Line.{Line}
use Rattle.zb_audit_lockout.proofs.past.learn_all.Given as goal

abbrev pub invariant-loop-fact : goal.invariant-loop-fact
invariant-loop-fact l = (tools : Tools) (names : List Bytes) (h : List Line)
    → Recalls tools names l.fn.before l.facts h → Recalls tools names l.before (drop l.fact-index l.facts) h
