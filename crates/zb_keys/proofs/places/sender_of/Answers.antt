use Rattle.zb_model.specs.State.{SenderFloor}
use Rattle.zb_record.specs.RowViews.{heard_floor}
use Rattle.zb_keys.proofs.PlaceLemmas.{read_some, read_none}
use Rattle.zb_keys.proofs.places.sender_of.Goals as goal

pub returns-in-Some : goal.returns-in-Some
returns-in-Some c =
    read_some (λ (f : SenderFloor). f.sender) heard_floor c.args.floors.now c.args.at c.in-Some.floor.now
    c.in-Some.ensures.lookup.3.0 c.in-Some.ensures.lookup.1

pub returns-in-None : goal.returns-in-None
returns-in-None c =
    read_none (λ (f : SenderFloor). f.sender) heard_floor c.args.floors.now c.args.at c.in-None.ensures.lookup.3
