use Rattle.std.proofs.Common.{refl}
use Rattle.zb_trace_watch.proofs.Effects.{Holds, TakesIn, install_follows}
use Rattle.zb_trace_watch.proofs.words.EndWords.install.Goals as goal

pub returns : goal.returns
returns c =
    λ tools counts said node event sequence joiner find after grows stands.
    let holds : Holds c.args.self.now.exposure c.hold.new.self c.args.who.address c.args.key = record {
      settled = c.in_ok-hold.ensures.settled;
      ever = c.in_ok-hold.ensures.ever;
      removed = c.in_ok-hold.ensures.removed;
      carried = c.in_ok-hold.ensures.carried;
      based = c.in_ok-hold.ensures.based;
    } in
    let taken : TakesIn c.args.self.now.origins c.take_in.new.self c.args.who.joiner c.args.key.0 = record {
      ideal = c.in_ok-take_in.ensures.ideal;
      traced = c.in_ok-take_in.ensures.traced;
      terms = c.in_ok-take_in.ensures.terms;
      codes = c.in_ok-take_in.ensures.codes;
      bases = c.in_ok-take_in.ensures.bases;
      carriers = c.in_ok-take_in.ensures.carriers;
    } in
    install_follows tools counts c.args.self.now said stands c.args.who event node c.args.key sequence after (joiner
    refl) grows
    c.take_in.new.self c.hold.new.self taken holds
