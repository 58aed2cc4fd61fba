-- The insertion is of a name that isn't there.
use Rattle.std.proofs.Common.{sym}
use Rattle.zb_player_events.proofs.SeatLemmas.{first_named}
use Rattle.zb_trace_watch.proofs.Declaring.{nothing_there}
use Rattle.zb_player_events.proofs.seats.name_it.Goals as goal

pub returns-in_ok-insert : goal.returns-in_ok-insert
returns-in_ok-insert c =
    first_named c.args.by_name.now c.insert.new.self c.args.name c.args.seat
    (nothing_there _ (sym c.if-not-contains_key.ensures)) c.in_ok-insert.ensures.updates.0
