-- A node with power tells that there is no such frame.
use Rattle.std.proofs.Common.{if◌then◌else◌}
use Rattle.zb_player_events.proofs.Going.{missed_goes, named_as}
use Rattle.zb_player_events.proofs.Telling.{refused_as}
use Rattle.zb_player_events.proofs.ledger.Ledger.miss.Goals as goal
use Rattle.zb_model.specs.Data.{Down, NoFrame}
use Rattle.zb_trace_watch.proofs.Starting.{on_ok}

pub returns-clause-goes : goal.returns-clause-goes
returns-clause-goes c =
    on_ok c.refuse.result _ _
    (λ adds w h x latest n m before.
    missed_goes w h x latest c.args.event n c.is_up.result c.args.self.now c.refuse.new.self c.args.node.now m before
    c.is_up.ensures
    (refused_as w h c.args.event n (if c.is_up.result then NoFrame else Down) c.missed-refusal.result c.args.self.now
    c.refuse.new.self c.missed-refusal.ensures
    (adds w h n before.told (named_as w n _ _ c.name.ensures before.seat.called))))
    c.refuse.ensures.adds
