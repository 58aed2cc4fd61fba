use Rattle.std.proofs.Common.{Option, refl, subst}
use Rattle.zb_base.specs.declared.address.Eui.{Eui}
use Rattle.zb_trace_watch.proofs.Effects.{Holds, TakesIn, row_follows}
use Rattle.zb_trace_watch.proofs.words.EndWords.row.Goals as goal

pub returns : goal.returns
returns c =
    λ tools counts said node event joiner find after grows stands.
    let first : Holds c.args.self.now.exposure c.hold.new.self c.centres_partner.result c.args.key = record {
      settled = c.in_ok-hold.ensures.settled;
      ever = c.in_ok-hold.ensures.ever;
      removed = c.in_ok-hold.ensures.removed;
      carried = c.in_ok-hold.ensures.carried;
      based = c.in_ok-hold.ensures.based;
    } in
    let second : Holds c.hold.new.self c.hold-2.new.self c.args.who.address c.args.key = record {
      settled = c.in_ok-hold-2.ensures.settled;
      ever = c.in_ok-hold-2.ensures.ever;
      removed = c.in_ok-hold-2.ensures.removed;
      carried = c.in_ok-hold-2.ensures.carried;
      based = c.in_ok-hold-2.ensures.based;
    } in
    let taken : TakesIn c.args.self.now.origins c.take_in.new.self c.args.who.joiner c.args.key.0 = record {
      ideal = c.in_ok-take_in.ensures.ideal;
      traced = c.in_ok-take_in.ensures.traced;
      terms = c.in_ok-take_in.ensures.terms;
      codes = c.in_ok-take_in.ensures.codes;
      bases = c.in_ok-take_in.ensures.bases;
      carriers = c.in_ok-take_in.ensures.carriers;
    } in
    row_follows tools counts c.args.self.now said stands c.args.who event node c.args.partner c.args.key
    c.args.attribute after (joiner refl) grows c.row_key.new.self c.take_in.new.self c.row.new.self c.hold.new.self
    c.hold-2.new.self c.in_ok-row_key.ensures.network c.in_ok-row_key.ensures.forged c.in_ok-row_key.ensures.passed
    taken c.in_ok-row.ensures.bases c.in_ok-row.ensures.codes c.in_ok-row.ensures.terms c.in_ok-row.ensures.carriers
    c.in_ok-row.ensures.traced c.in_ok-row.ensures.ideal
    (subst (λ (n : Option Eui). Holds c.args.self.now.exposure c.hold.new.self n c.args.key)
    c.centres_partner.ensures first) second
