-- One more node after the others.
use Rattle.zb_player_events.proofs.SeatLemmas.{added}
use Rattle.zb_player_events.proofs.seats.Seats.add.Goals as goal

pub returns : goal.returns
returns c = λ known p named eui role place before.
    added c.args.self.now (record { by_name = c.name_it.new.by_name; centre = c.first_centre-self.result }) known p
    c.args.name c.args.role c.args.seat c.in_ok-name_it.ensures c.first_centre-self.ensures named eui role place
    before
