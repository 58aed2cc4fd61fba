-- Floors are of declared nodes, of which there are at most 64.
use Rattle.law_run_lookups.proofs.Senders.{has-room}
use Rattle.law_run_lookups.proofs.each_sender_has_room.Goals as goal

pub returns : goal.returns
returns c = has-room
