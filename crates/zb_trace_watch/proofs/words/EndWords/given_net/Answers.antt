use Rattle.zb_trace_watch.proofs.Effects.{Holds, given_net_follows}
use Rattle.zb_trace_watch.proofs.words.EndWords.given_net.Goals as goal

pub returns : goal.returns
returns c =
    λ tools counts said node sequence find after grows stands.
    let holds : Holds c.args.self.now.exposure c.hold.new.self c.args.who.address c.args.key = record {
      settled = c.in_ok-hold.ensures.settled;
      ever = c.in_ok-hold.ensures.ever;
      removed = c.in_ok-hold.ensures.removed;
      carried = c.in_ok-hold.ensures.carried;
      based = c.in_ok-hold.ensures.based;
    } in
    given_net_follows tools counts c.args.self.now said stands c.args.who node c.args.key sequence after grows
    c.network_key.new.self c.hold.new.self c.in_ok-network_key.ensures.network c.in_ok-network_key.ensures.forged
    c.in_ok-network_key.ensures.passed holds
