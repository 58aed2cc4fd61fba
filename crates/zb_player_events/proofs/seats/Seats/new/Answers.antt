-- The nodes up to a place have their seats, and so has the next one.
use Rattle.std.proofs.Common.{List, None, refl, map, take, subst, arith}
use Rattle.std.proofs.lemmas.List.{take_all}
use Rattle.zb_player_events.proofs.SeatLemmas.{declared_count, declared_more, no_seats}
use Rattle.zb_player_events.specs.Seats.{AreSeats}
use Rattle.law_schedules.specs.Schedules.{station_for}
use Rattle.zb_sched.specs.Schedules.{node_of}
use Rattle.zb_sched.specs.declared.schedule.Node.{Node as Declared}
use Rattle.zb_player_events.proofs.seats.Seats.new.Goals as goal

pub loop-place-init : goal.loop-place-init
loop-place-init c = no_seats (record { by_name = c.new.result; centre = None }) c.new.ensures.empty refl

pub loop-place-preserved : goal.loop-place-preserved
loop-place-preserved c =
    let before = map station_for (map node_of (take c.loop-place.place c.args.nodes.now)) in
    let station = station_for (node_of c.index-nodes-place.result) in
    declared_more c.args.nodes.now c.loop-place.place c.index-nodes-place.result c.add.new.self c.loop-place-test.true
    c.index-nodes-place.is
    (c.in_ok-add.ensures before station refl refl refl
    (declared_count c.args.nodes.now c.loop-place.place (omega (arith, c.loop-place-test.true)))
    c.loop-place.invariant)

pub returns : goal.returns
returns c = subst (λ (xs : List Declared). AreSeats c.loop-place.seats (map station_for (map node_of xs)))
    (take_all c.loop-place.place c.args.nodes.now c.loop-place-test.false) c.loop-place.invariant
