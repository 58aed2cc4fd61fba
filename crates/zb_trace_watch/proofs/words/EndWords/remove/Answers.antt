use Rattle.zb_trace_watch.proofs.Effects.{remove_follows}
use Rattle.zb_trace_watch.proofs.words.EndWords.remove.Goals as goal

pub returns : goal.returns
returns c =
    λ tools counts said who event find after grows stands.
    let it = c.in_ok-remove.ensures in
    remove_follows tools counts c.args.self.now said stands who event c.args.device after grows c.remove.new.self
    it.settled it.ever it.removed it.in_range it.carried it.based
