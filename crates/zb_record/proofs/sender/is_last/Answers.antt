use Rattle.zb_record.proofs.LastSender.{above_last, above_none}
use Rattle.zb_record.proofs.sender.is_last.Goals as goal

pub returns-in-Some : goal.returns-in-Some
returns-in-Some c =
    above_last c.args.floors.now c.in-Some.floor.now c.args.sender.0 c.in-Some.ensures.value c.requires

pub returns-in-None : goal.returns-in-None
returns-in-None c = above_none c.args.floors.now c.args.sender.0 c.in-None.ensures.value
