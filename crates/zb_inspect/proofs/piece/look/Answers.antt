use Rattle.zb_inspect.proofs.PieceLaws.{next_piece}
use Rattle.zb_inspect.proofs.piece.look.Goals as goal

pub returns-in_ok-next-in-None : goal.returns-in_ok-next-in-None
returns-in_ok-next-in-None c =
    let told = c.in_ok-next-in-None.ensures in
    next_piece c.args.frames.now c.args.addrs.now c.args.keys.now c.args.piece c.in_ok-next-in-None.next told.number
    told.next told.leads
