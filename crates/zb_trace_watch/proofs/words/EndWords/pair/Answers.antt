use Rattle.std.proofs.Common.{Some}
use Rattle.zb_trace_watch.proofs.Effects.{Holds, pair_follows}
use Rattle.zb_trace_watch.proofs.words.EndWords.pair.Goals as goal

pub returns : goal.returns
returns c =
    λ tools counts said who event node find after grows stands.
    let first : Holds c.args.self.now.exposure c.hold.new.self (Some c.args.first) c.args.key = record {
      settled = c.in_ok-hold.ensures.settled;
      ever = c.in_ok-hold.ensures.ever;
      removed = c.in_ok-hold.ensures.removed;
      carried = c.in_ok-hold.ensures.carried;
      based = c.in_ok-hold.ensures.based;
    } in
    let second : Holds c.hold.new.self c.hold-2.new.self (Some c.args.second) c.args.key = record {
      settled = c.in_ok-hold-2.ensures.settled;
      ever = c.in_ok-hold-2.ensures.ever;
      removed = c.in_ok-hold-2.ensures.removed;
      carried = c.in_ok-hold-2.ensures.carried;
      based = c.in_ok-hold-2.ensures.based;
    } in
    pair_follows tools counts c.args.self.now said stands who event node c.args.first c.args.second c.args.key after
    grows c.hold.new.self c.hold-2.new.self first second
