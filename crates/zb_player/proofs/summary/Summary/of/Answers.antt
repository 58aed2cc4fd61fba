use Rattle.std.proofs.Common.{◌∙◌}
use Rattle.zb_player.proofs.Summing.{sums}
use Rattle.zb_player.proofs.summary.Summary.of.Goals as goal

pub returns : goal.returns
returns c = λ h kept.
    sums c.args.events c.seals.result c.accepts.result c.refusals.result c.ideal.result c.private.result h
    (c.seals.ensures ∙ kept.seals) (c.accepts.ensures ∙ kept.accepts) (c.refusals.ensures ∙ kept.refusals)
    (c.ideal.ensures h kept) (c.private.ensures h kept)
