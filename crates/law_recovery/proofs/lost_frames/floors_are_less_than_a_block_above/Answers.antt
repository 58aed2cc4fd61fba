use Rattle.law_recovery.proofs.Floors.{floor_at_most, tried_at_most}
use Rattle.law_recovery.proofs.NetFloors.{sender_at_most}
use Rattle.law_recovery.proofs.lost_frames.floors_are_less_than_a_block_above.Goals as goal

pub returns : goal.returns
returns c = record { nwk = sender_at_most; current = floor_at_most; tried = tried_at_most }
