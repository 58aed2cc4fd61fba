use Rattle.std.proofs.Common.{refl}
use Rattle.zb_model.specs.Lines as log
use Rattle.zb_model.specs.Play.{stations}
use Rattle.zb_node_types.specs.Changes.{model_place, place_of, reason}
use Rattle.zb_player_events.proofs.ledger.Ledger.refuse.Goals as goal
use Rattle.zb_trace_watch.proofs.Starting.{on_ok}

pub returns-clause-adds : goal.returns-clause-adds
returns-clause-adds c =
    on_ok c.tell.result _ _
    (λ adds w h n before called.
    adds w h (log.Refuse c.args.event n (model_place (place_of c.args.refusal)) (reason c.args.refusal)) before
    (c.refuse_line.ensures (stations w) n called) refl)
    c.tell.ensures.adds
