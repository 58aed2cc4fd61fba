use Rattle.std.proofs.Common.{refl}
use Rattle.zb_model.specs.Lines as log
use Rattle.zb_model.specs.Play.{stations}
use Rattle.zb_model_real.specs.Terms.{model_term}
use Rattle.zb_player_events.proofs.Adding.{open_adds}
use Rattle.zb_player_events.proofs.ledger.Ledger.forge_open.Goals as goal
use Rattle.zb_trace_watch.proofs.Starting.{on_ok}

pub returns-clause-adds : goal.returns-clause-adds
returns-clause-adds c =
    on_ok c.send.result _ _
    (λ adds w h before.
    open_adds w h c.args.event c.args.to.0 c.args.from.0 (model_term c.args.inner) c.clear_frame-bytes.result.items
    c.as_slice.result.now c.sealed-part.result.items c.args.self.now
    c.tell.new.self c.send.new.self before c.clear_frame-bytes.ensures c.as_slice.ensures.value
    c.sealed-part.ensures.text
    (λ lines told. c.in_ok-tell.ensures.adds w lines (log.Forge c.args.event (model_term c.args.inner)) told
    (c.forge_line.ensures (stations w)) refl) (λ lines told. adds w lines told))
    c.send.ensures.adds
