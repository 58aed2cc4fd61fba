use Rattle.std.proofs.Common.{None, refl}
use Rattle.zb_model.specs.Lines as log
use Rattle.zb_model.specs.Play.{stations}
use Rattle.zb_player_events.proofs.Adding.{send_adds}
use Rattle.zb_player_events.proofs.ledger.Ledger.send.Goals as goal
use Rattle.zb_trace_watch.proofs.Starting.{on_ok}

pub returns-clause-adds : goal.returns-clause-adds
returns-clause-adds c =
    on_ok c.tell.result _ _
    (λ adds w h before.
    send_adds w h c.args.event c.next_frame-frame.result c.args.bytes.items c.args.self.now c.tell.new.self before
    c.next_frame-frame.ensures
    (adds w h (log.Send c.args.event None c.next_frame-frame.result c.args.bytes.items) before
    (c.send_line.ensures.outsider (stations w) c.nobody.ensures) refl))
    c.tell.ensures.adds
