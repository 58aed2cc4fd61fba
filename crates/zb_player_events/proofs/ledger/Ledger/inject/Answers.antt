use Rattle.std.proofs.Common.{refl, ◌∙◌}
use Rattle.zb_model.specs.Lines as log
use Rattle.zb_model.specs.Play.{stations}
use Rattle.zb_player_events.proofs.Adding.{inject_adds}
use Rattle.zb_player_events.proofs.ledger.Ledger.inject.Goals as goal
use Rattle.zb_trace_watch.proofs.Starting.{on_ok}

pub returns-clause-adds : goal.returns-clause-adds
returns-clause-adds c =
    on_ok c.tell.result _ _
    (λ adds w h before.
    inject_adds w h c.args.event c.next_frame-frame.result c.args.bytes.now.items c.frame_from.result.items
    c.args.self.now c.tell.new.self before c.next_frame-frame.ensures
    (c.frame_from.ensures ∙ c.as_slice.ensures.value)
    (adds w h (log.Inject c.args.event c.next_frame-frame.result c.frame_from.result.items) before
    (c.inject_line.ensures (stations w)) refl))
    c.tell.ensures.adds
