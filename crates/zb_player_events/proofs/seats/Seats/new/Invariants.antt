use Rattle.std.proofs.Common.{map, take}
use Rattle.zb_player_events.specs.Seats.{AreSeats}
use Rattle.law_schedules.specs.Schedules.{station_for}
use Rattle.zb_sched.specs.Schedules.{node_of}
use Rattle.zb_player_events.proofs.seats.Seats.new.Given as goal

abbrev pub invariant-loop-place : goal.invariant-loop-place
invariant-loop-place l = AreSeats l.seats (map station_for (map node_of (take l.place l.nodes)))
