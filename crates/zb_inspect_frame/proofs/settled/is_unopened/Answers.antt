use Rattle.zb_inspect_frame.proofs.UnopenedFrames.{shows_nothing, unopened_is}
use Rattle.zb_inspect_frame.proofs.settled.is_unopened.Goals as goal

pub returns-then-is_closed-clause-nothing : goal.returns-then-is_closed-clause-nothing
returns-then-is_closed-clause-nothing c =
    shows_nothing c.is_none.result c.args.shown.now
    (unopened_is c.args.shown.now c.is_closed.result c.is_none.result c.if-is_closed.true c.is_closed.ensures
    c.is_none.ensures)
