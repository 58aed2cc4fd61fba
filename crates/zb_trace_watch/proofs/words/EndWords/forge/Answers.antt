use Rattle.zb_trace_watch.proofs.Effects.{forge_follows}
use Rattle.zb_trace_watch.proofs.words.EndWords.forge.Goals as goal

pub returns : goal.returns
returns c =
    λ tools counts said who event find after grows stands.
    let from = c.in_ok-term.ensures in
    let it = c.in_ok-carry.ensures in
    let heard = c.in_ok-forged_key.ensures in
    forge_follows tools counts c.args.self.now said stands find c.args.term.now c.carried_key-key.result
    c.carried_key-key.ensures who event after grows c.term.new.self c.forged_key.new.self c.forge.new.self
    c.carry.new.self from.terms from.codes from.bases from.carriers from.traced from.ideal heard.network heard.forged
    heard.passed c.forge.ensures it.settled it.ever it.removed it.carried it.based
