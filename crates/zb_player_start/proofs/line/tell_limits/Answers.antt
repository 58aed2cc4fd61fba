-- The two lines are told in turn.
use Rattle.zb_model.specs.Data.{Nwk, Aps}
use Rattle.zb_model.specs.Play.{limit_line}
use Rattle.zb_player_scribe.specs.Turns.{told_in_turn}
use Rattle.zb_player_start.proofs.Turns.{ok_map}
use Rattle.zb_player_start.proofs.line.tell_limits.Goals as goal

pub returns-clause-tells : goal.returns-clause-tells
returns-clause-tells c =
    let d = c.args.node.now in
    ok_map c.tell_limit-2.result (λ second known called.
    told_in_turn known (limit_line d.peer.eui.0 Nwk d.start_nwk) (limit_line d.peer.eui.0 Aps d.start_aps)
    c.args.scribe.now c.tell_limit.new.scribe c.tell_limit-2.new.scribe
    c.args.page.now c.tell_limit.new.page c.tell_limit-2.new.page
    (c.in_ok-tell_limit.ensures.tells known d.peer.eui.0 called) (second known d.peer.eui.0 called))
    c.tell_limit-2.ensures.tells
