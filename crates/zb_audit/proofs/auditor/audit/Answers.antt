use Rattle.zb_trace_watch.proofs.Starting.{readers_find}
use Rattle.zb_model_real.specs.Real.{real}
use Rattle.zb_audit.proofs.ClaimsHold.{keeps_if_sound}
use Rattle.zb_audit.proofs.auditor.audit.Goals as goal

pub returns-in-Ok-clause-answer : goal.returns-in-Ok-clause-answer
returns-in-Ok-clause-answer c = c.end.ensures real c.args.lines.now (c.in-Ok.ensures real readers_find)

pub returns-in-Ok-clause-claims : goal.returns-in-Ok-clause-claims
returns-in-Ok-clause-claims c = keeps_if_sound real c.args.lines.now c.end.result
    (c.end.ensures real c.args.lines.now (c.in-Ok.ensures real readers_find))
