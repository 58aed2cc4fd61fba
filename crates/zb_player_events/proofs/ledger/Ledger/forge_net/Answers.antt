use Rattle.std.proofs.Common.{refl}
use Rattle.zb_model.specs.Lines as log
use Rattle.zb_model.specs.Play.{stations}
use Rattle.zb_model_real.specs.Terms.{model_term}
use Rattle.zb_player_events.proofs.Adding.{net_adds}
use Rattle.zb_player_events.proofs.ledger.Ledger.forge_net.Goals as goal
use Rattle.zb_trace_watch.proofs.Starting.{on_ok}

pub returns-clause-adds : goal.returns-clause-adds
returns-clause-adds c =
    on_ok c.send.result _ _
    (λ adds w h before.
    net_adds w h c.args.event (model_term c.args.term) c.sealed-bytes.result.items c.args.self.now c.tell.new.self
    c.send.new.self before c.sealed-bytes.ensures.text
    (λ lines told. c.in_ok-tell.ensures.adds w lines (log.Forge c.args.event (model_term c.args.term)) told
    (c.forge_line.ensures (stations w)) refl) (λ lines told. adds w lines told))
    c.send.ensures.adds
