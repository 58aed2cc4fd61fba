-- By the power that the node has.
use Rattle.std.proofs.Common.{refl}
use Rattle.zb_player_events.proofs.Going.{named_as, no_reset_goes, reset_goes}
use Rattle.zb_player_events.proofs.Telling.{refused_as}
use Rattle.zb_player_events.proofs.ledger.Ledger.reset.Goals as goal
use Rattle.zb_model.specs.Data.{Down}
use Rattle.zb_model.specs.Lines.{DownReset}
use Rattle.zb_model.specs.Play.{stations}
use Rattle.zb_trace_watch.proofs.Starting.{on_ok}

pub returns-then-not-is_up-clause-goes : goal.returns-then-not-is_up-clause-goes
returns-then-not-is_up-clause-goes c =
    on_ok c.refuse.result _ _
    (λ adds w h x latest n before.
    no_reset_goes w h x latest c.args.event n c.args.self.now c.refuse.new.self c.args.node.now c.args.disk.now before
    c.if-not-is_up.ensures
    (refused_as w h c.args.event n Down c.down.result c.args.self.now c.refuse.new.self c.down.ensures
    (adds w h n before.told (named_as w n _ _ c.name-name.ensures before.seat.called))))
    c.refuse.ensures.adds

pub returns-clause-goes : goal.returns-clause-goes
returns-clause-goes c =
    on_ok c.tell.result _ _
    (λ adds w h x latest n before.
    reset_goes w h x latest c.args.event n c.args.self.now c.tell.new.self c.args.node.now c.reset.new.self
    c.args.disk.now
    c.reset.new.disk before c.if-not-is_up.ensures
    (adds w h (DownReset c.args.event n) before.told
    (c.reset_line.ensures (stations w) n (named_as w n _ _ c.name-name.ensures before.seat.called)) refl)
    c.reset.ensures.rest)
    c.tell.ensures.adds
