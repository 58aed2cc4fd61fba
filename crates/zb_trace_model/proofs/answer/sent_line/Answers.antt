use Rattle.std.proofs.Common.{ℕ, List, Some, subst, ◌∙◌}
use Rattle.zb_model.specs.Lines.{Send}
use Rattle.zb_trace.specs.declared.line.Line.TheVariants as line
use Rattle.zb_trace_model.specs.AnswerLines.{IsSaid}
use Rattle.zb_trace_model.proofs.AnswerLaws.{send_said}
use Rattle.zb_trace_model.proofs.answer.sent_line.Goals as goal

pub returns : goal.returns
returns c = λ reads known n called named.
    let group = c.args.group.now in
    subst (λ (bytes : List ℕ). IsSaid reads known (line.Send group.event group.node group.frame c.frame_from.result)
    (Send group.event (Some n) group.frame bytes)) (c.frame_from.ensures ∙ c.as_slice.ensures.value)
    (send_said group.event group.node group.frame c.frame_from.result reads known n called named)
