use Rattle.zb_inspect_frame.proofs.SettledFrames.{shows_no_more}
use Rattle.zb_inspect_frame.proofs.settled.is_settled.Goals as goal

pub returns-then-not-is_closed-clause-lasting : goal.returns-then-not-is_closed-clause-lasting
returns-then-not-is_closed-clause-lasting c =
    shows_no_more c.below_settled.result c.args.shown.now
    (λ e. cc (e, c.below_settled.ensures, c.is_closed.ensures, c.if-not-is_closed.true))
