use Rattle.std.proofs.Common.{◌∙◌, ap}
use Rattle.zb_inspect.specs.Rings.{learnt}
use Rattle.zb_inspect.proofs.PieceLists.{learnt_next}
use Rattle.zb_inspect.proofs.rounds.learn_from.Goals as goal

pub loop-piece-preserved : goal.loop-piece-preserved
loop-piece-preserved c =
    learnt_next c.args.round c.loop-piece.ring c.in_ok-ring.ring c.args.pieces.now c.loop-piece.piece-index
    c.piece-item.result
    c.loop-piece-test.true c.piece-item.is
    (c.in_ok-ring.ensures ∙ ap (learnt c.args.round c.loop-piece.ring) c.as_slice.ensures.value)
    ∙ c.loop-piece.invariant
