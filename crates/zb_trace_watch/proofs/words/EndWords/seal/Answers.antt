use Rattle.zb_trace_watch.proofs.Effects.{seal_follows}
use Rattle.zb_trace_watch.proofs.words.EndWords.seal.Goals as goal

pub returns : goal.returns
returns c =
    λ tools counts said who event node find after grows stands.
    let from = c.in_ok-term.ensures in
    let it = c.in_ok-carry.ensures in
    seal_follows tools counts c.args.self.now said stands find c.args.term.now c.carried_key-key.result
    c.carried_key-key.ensures who event node after grows c.term.new.self c.carry.new.self from.terms from.codes
    from.bases from.carriers from.traced from.ideal it.settled it.ever it.removed it.carried it.based
