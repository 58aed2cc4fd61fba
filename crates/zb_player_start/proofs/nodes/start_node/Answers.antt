-- The node boots from the record of its declarations.
use Rattle.std.proofs.Common.{◌≡◌, Some, ap, ◌∙◌}
use Rattle.std.specs.Prelude.{slice_get}
use Rattle.zb_player_start.proofs.Seating.{node_at, role_in, started, started_at, station, station_at}
use Rattle.zb_player_start.proofs.nodes.start_node.Goals as goal

pub start-requires-clause-role : goal.start-requires-clause-role
start-requires-clause-role c =
    let ds = c.args.declared.now in
    let d = c.index-declared-me.result in
    let p = c.requires.schedule.0 in
    let is = c.requires.schedule.1 in
    let at : slice_get ds c.args.me ≡ Some d = node_at ds c.args.me d c.requires.place c.index-declared-me.is in
    ap (λ s. s.me.role) (c.config_at-config.ensures.setting p (station d) is (station_at p ds is c.args.me d at)) ∙
    role_in p ds is c.args.me d at

pub returns : goal.returns
returns c = λ p s is same found.
    let ds = c.args.declared.now in
    let d = c.index-declared-me.result in
    let at : slice_get ds c.args.me ≡ Some d = node_at ds c.args.me d c.requires.place c.index-declared-me.is in
    started_at p ds is c.args.me d at s found c.in_ok-started.started c.start.new.disk
    (started p ds is c.args.me d at c.args.centre.0 same c.config_at-config.result c.in_ok-started.started
    c.in_ok-disk.disk c.start.new.disk
    (c.config_at-config.ensures.setting p (station d) is (station_at p ds is c.args.me d at))
    c.in_ok-started.ensures.names.0 c.in_ok-disk.ensures
    (λ setting state t may. c.in_ok-started.ensures.starts setting state t may)
    c.start_lines_say_what_is_declared.ensures.states c.start_lines_say_what_is_declared.ensures.powered
    c.start_lines_say_what_is_declared.ensures.uncommitted)
