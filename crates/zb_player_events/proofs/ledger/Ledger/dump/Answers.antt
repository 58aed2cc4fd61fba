-- The record is the one that the state gives.
use Rattle.std.proofs.Common.{refl, ◌∙◌}
use Rattle.zb_player_events.proofs.Going.{dump_goes, named_as}
use Rattle.zb_player_events.proofs.ledger.Ledger.dump.Goals as goal
use Rattle.zb_model.specs.Lines.{Dump}
use Rattle.zb_model.specs.Play.{stations}
use Rattle.zb_trace_watch.proofs.Starting.{on_ok}

pub returns-clause-goes : goal.returns-clause-goes
returns-clause-goes c =
    on_ok c.tell.result _ _
    (λ adds w h x latest n before.
    dump_goes w h x latest c.args.event n c.from_vec.result c.args.self.now c.tell.new.self c.args.node.now
    c.args.disk.now
    c.dump.new.disk before
    (λ x k there. let is = c.in_ok-record.ensures.record_is x k there in (c.from_vec.ensures ∙ is.0, is.1))
    (adds w h (Dump c.args.event n c.from_vec.result) before.told
    (c.dump_line.ensures (stations w) n (named_as w n _ _ c.name.ensures before.seat.called)) refl))
    c.tell.ensures.adds
