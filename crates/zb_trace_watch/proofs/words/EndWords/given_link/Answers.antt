use Rattle.zb_trace_watch.proofs.Effects.{Holds, given_link_follows}
use Rattle.zb_trace_watch.proofs.words.EndWords.given_link.Goals as goal

pub returns : goal.returns
returns c =
    λ tools counts said node partner find after grows stands.
    let holds : Holds c.args.self.now.exposure c.hold.new.self c.args.who.address c.args.key = record {
      settled = c.in_ok-hold.ensures.settled;
      ever = c.in_ok-hold.ensures.ever;
      removed = c.in_ok-hold.ensures.removed;
      carried = c.in_ok-hold.ensures.carried;
      based = c.in_ok-hold.ensures.based;
    } in
    given_link_follows tools counts c.args.self.now said stands c.args.who node partner c.args.key after grows
    c.network_key.new.self c.code.new.self c.hold.new.self c.in_ok-network_key.ensures.network
    c.in_ok-network_key.ensures.forged c.in_ok-network_key.ensures.passed c.in_ok-code.ensures.codes
    c.in_ok-code.ensures.bases c.in_ok-code.ensures.terms c.in_ok-code.ensures.carriers c.in_ok-code.ensures.traced
    c.in_ok-code.ensures.ideal holds
