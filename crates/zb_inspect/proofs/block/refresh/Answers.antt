use Rattle.std.proofs.Common.{take, drop, get_or, ap, sym, ◌∙◌}
use Rattle.zb_inspect_frame.specs.Layers.{tried}
use Rattle.zb_inspect_frame.specs.Shows.{frame_shown, with_nwk}
use Rattle.zb_inspect.proofs.RunLaws.{at_place}
use Rattle.zb_inspect.proofs.block.refresh.Goals as goal

pub returns-then-is_settled : goal.returns-then-is_settled
returns-then-is_settled c =
    λ other.
    sym (c.if-is_settled.ensures.lasting c.args.known c.args.addrs.now c.args.keys.now
    (get_or c.args.frames.now c.args.place other).items
    c.requires.within (c.requires.before other))

pub returns-then-stays_closed : goal.returns-then-stays_closed
returns-then-stays_closed c =
    λ other.
    c.if-stays_closed.ensures.closed c.args.addrs.now (get_or c.args.frames.now c.args.place other).items
    (c.requires.before other)

pub show_below-requires-clause-before : goal.show_below-requires-clause-before
show_below-requires-clause-before c =
    let frame = c.at-frame.result in
    let is = at_place c.args.frames.now c.from.result c.args.place frame frame c.requires.place c.from.ensures.some
    c.from.ensures.part (c.at-frame.ensures frame) in
    c.stays_closed.ensures.tried
    ∙ ap (with_nwk (tried c.args.known (drop c.args.known c.args.keys.now)))
    (c.requires.before frame
    ∙ ap (λ f. frame_shown c.args.addrs.now (take c.args.known c.args.keys.now) f.items) (sym is))

pub returns : goal.returns
returns c =
    λ other.
    let frame = c.at-frame.result in
    c.show_below.ensures
    ∙ ap (λ f. frame_shown c.args.addrs.now c.args.keys.now f.items)
    (at_place c.args.frames.now c.from.result c.args.place frame other c.requires.place c.from.ensures.some
    c.from.ensures.part (c.at-frame.ensures frame))
