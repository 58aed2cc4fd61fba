-- The line of a fall declares no node.
use Rattle.zb_player_events.proofs.Telling.{fall_declares}
use Rattle.zb_player_events.proofs.ledger.Ledger.fallen.Goals as goal
use Rattle.zb_player_events.specs.Told.{fall_line}
use Rattle.zb_trace_watch.proofs.Starting.{on_ok}

pub returns-clause-adds : goal.returns-clause-adds
returns-clause-adds c =
    on_ok c.tell.result _ _
    (λ adds w h n told called.
    adds w h (fall_line c.args.fall c.args.event n) told (c.fallen_line.ensures w n called)
    (fall_declares c.args.fall c.args.event n))
    c.tell.ensures.adds
