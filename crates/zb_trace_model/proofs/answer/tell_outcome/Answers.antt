use Rattle.zb_trace_model.proofs.AnswerLaws.{outcome_told}
use Rattle.zb_trace_model.proofs.answer.tell_outcome.Goals as goal

pub returns-clause-tells : goal.returns-clause-tells
returns-clause-tells g c = λ known n called named.
    outcome_told (g.T.Teller.Tells known) (g.met.T.Teller.joined known) c.args.group.now.event n
    c.args.group.now.frame c.args.out.now _ _ _ _ _ _ _
    (c.in_ok-tell_accepted.ensures.tells known n called) (c.in_ok-tell_accepted-2.ensures.tells known n called)
    (c.in_ok-tell_refused.ensures.tells known n called)
    (c.in_ok-tell_sealed.ensures.tells known n called) (c.in_ok-tell_sealed-2.ensures.tells known n called)
    (c.in_ok-tell_sent.ensures.tells known n called named)
