use Rattle.zb_trace_watch.proofs.Effects.{accept_follows}
use Rattle.zb_trace_watch.proofs.words.EndWords.accept.Goals as goal

pub returns : goal.returns
returns c =
    λ tools counts said who event node find after grows stands.
    accept_follows tools counts c.args.self.now said stands who event node c.args.term.now after grows
    c.accept.new.self c.accept.ensures
