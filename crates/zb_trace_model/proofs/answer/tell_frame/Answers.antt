use Rattle.std.proofs.Common.{Some}
use Rattle.zb_model.specs.Lines.{Send}
use Rattle.zb_trace_model.proofs.AnswerLaws.{on_ok}
use Rattle.zb_trace_model.proofs.answer.tell_frame.Goals as goal

pub returns-clause-tells : goal.returns-clause-tells
returns-clause-tells g c =
    let group = c.args.group.now in
    on_ok c.tell.result (λ tells known n called named.
    tells known (Send group.event (Some n) group.frame c.args.frame.now.items)
    (c.sent_line.ensures g.T.Teller.reads known n called named)) c.tell.ensures.tells
