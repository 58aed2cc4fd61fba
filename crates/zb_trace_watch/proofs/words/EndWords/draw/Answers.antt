use Rattle.zb_trace_watch.proofs.Effects.{draw_follows}
use Rattle.zb_trace_watch.proofs.words.EndWords.draw.Goals as goal

pub returns : goal.returns
returns c =
    λ tools counts said who event find after grows stands.
    draw_follows tools counts c.args.self.now said stands who event c.args.key after grows c.network_key.new.self
    c.in_ok-network_key.ensures.network c.in_ok-network_key.ensures.forged c.in_ok-network_key.ensures.passed
