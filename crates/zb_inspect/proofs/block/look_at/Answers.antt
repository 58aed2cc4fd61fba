use Rattle.zb_inspect.proofs.BlockLaws.{lines_stay}
use Rattle.zb_inspect.proofs.block.look_at.Goals as goal

pub returns-in-Lines-clause-shown : goal.returns-in-Lines-clause-shown
returns-in-Lines-clause-shown c =
    lines_stay c.args.known c.args.frames.now c.args.addrs.now c.args.keys.now c.args.block.now c.in-Lines.lines
    c.requires.known c.in-Lines.ensures.value c.requires.before
