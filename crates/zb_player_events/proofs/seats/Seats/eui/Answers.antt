-- The seat that is there has the EUI that is found.
use Rattle.std.proofs.Common.{sym, ◌∙◌}
use Rattle.zb_player_events.proofs.SeatLemmas.{seat_eui}
use Rattle.zb_player_events.specs.Seats.{has_name}
use Rattle.zb_model.specs.Data.{nobody}
use Rattle.zb_player_events.proofs.seats.Seats.eui.Goals as goal

pub returns-in-Some : goal.returns-in-Some
returns-in-Some c = λ known seats there.
    seat_eui (has_name c.args.name.now.bytes) 0 nobody known c.in-Some.seat
    (sym (c.named.ensures known seats) ∙ c.in-Some.is)
