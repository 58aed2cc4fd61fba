use Rattle.std.proofs.Common.{map, sym, ap}
use Rattle.zb_player_start.specs.Firsts.{AreNodesOf}
use Rattle.zb_player.proofs.Ending.{started}
use Rattle.zb_player.proofs.run.Run.start.Goals as goal
use Rattle.zb_sched.specs.Schedules as sched
use Rattle.zb_sched.specs.Schedules.{node_of}

pub returns-clause-stands : goal.returns-clause-stands
returns-clause-stands c =
    let p = sched.schedule_of c.args.schedule.now in
    let is : AreNodesOf p c.as_slice-declared.result.now =
    record { valid = c.requires.schedule; nodes = ap (map node_of) (sym c.as_slice-declared.ensures) } in
    started c.args.schedule.now c.as_slice-declared.result.now _ c.start_nodes.new.disks.items
    c.as_slice-declared.ensures
    (c.in_ok-tell_start.ensures.kept p is c.in_ok-scribe.ensures.kept) (c.in_ok-nodes.ensures.stand p is)
    c.in_ok-seats.ensures c.as_slice.ensures

pub returns-clause-page : goal.returns-clause-page
returns-clause-page c =
    let p = sched.schedule_of c.args.schedule.now in
    let is : AreNodesOf p c.as_slice-declared.result.now =
    record { valid = c.requires.schedule; nodes = ap (map node_of) (sym c.as_slice-declared.ensures) } in
    c.in_ok-tell_start.ensures.page p is
