use Rattle.zb_judge.proofs.Opened.{aps_opened}
use Rattle.zb_judge.proofs.opening.open_aps.Goals as goal

pub returns-in-Ok-open : goal.returns-in-Ok-open
returns-in-Ok-open c = aps_opened c.args.bytes.now c.args.frame.now c.in-Ok.envelope c.args.key.now c.args.source
    c.in-Ok-open.term c.requires.read c.in-Ok.ensures.exact c.in-Ok-open.ensures
