-- By the power that the node has, and by how its boot ends.
use Rattle.zb_player_events.proofs.Counting.{boot_calls, cut_boot_calls, no_boot_calls, ok_so}
use Rattle.std.proofs.Common.{refl}
use Rattle.zb_player_events.proofs.Going.{boot_goes, cut_boot_goes, named_as, no_boot_goes}
use Rattle.zb_player_events.proofs.Telling.{fall_declares, refused_as}
use Rattle.zb_player_events.proofs.ledger.Ledger.boot.Goals as goal
use Rattle.zb_player_events.specs.Told.{fall_line}
use Rattle.zb_model.specs.Data.{WrongState}
use Rattle.zb_model.specs.Lines.{Boot}
use Rattle.zb_model.specs.Play.{stations}
use Rattle.zb_trace_watch.proofs.Starting.{on_ok}

pub returns-then-is_up-clause-goes : goal.returns-then-is_up-clause-goes
returns-then-is_up-clause-goes c =
    on_ok c.refuse.result _ _
    (λ adds w h x latest n before.
    no_boot_goes w h x latest c.args.event n c.args.self.now c.refuse.new.self c.args.node.now c.args.disk.now before
    c.if-is_up.ensures
    (refused_as w h c.args.event n WrongState c.wrong_state.result c.args.self.now c.refuse.new.self
    c.wrong_state.ensures (adds w h n before.told (named_as w n _ _ c.name-name.ensures before.seat.called))))
    c.refuse.ensures.adds

pub returns-in-None-clause-goes : goal.returns-in-None-clause-goes
returns-in-None-clause-goes c =
    on_ok c.tell.result _ _
    (λ adds w h x latest n before.
    boot_goes w h x latest c.args.event n c.in_ok-boot.field-0 c.args.self.now c.tell.new.self c.args.node.now
    c.boot.new.self c.args.disk.now c.boot.new.disk before c.if-is_up.ensures c.in-None.is
    c.in_ok-boot.ensures.booted
    (adds w h (Boot c.args.event n) before.told
    (c.boot_line.ensures (stations w) n (named_as w n _ _ c.name-name.ensures before.seat.called)) refl))
    c.tell.ensures.adds

pub returns-in-Some-clause-goes : goal.returns-in-Some-clause-goes
returns-in-Some-clause-goes c =
    on_ok c.tell-in-Some.result _ _
    (λ adds w h x latest n before.
    cut_boot_goes w h x latest c.args.event n c.in_ok-boot.field-0 c.in-Some.fall c.args.self.now
    c.tell-in-Some.new.self
    c.args.node.now c.boot.new.self c.args.disk.now c.boot.new.disk before c.if-is_up.ensures c.in-Some.is
    c.in_ok-boot.ensures.booted
    (adds w h (fall_line c.in-Some.fall c.args.event n) before.told
    (c.fallen_line.ensures w n (named_as w n _ _ c.name-name.ensures before.seat.called))
    (fall_declares c.in-Some.fall c.args.event n)))
    c.tell-in-Some.ensures.adds

pub returns-then-is_up-clause-calls : goal.returns-then-is_up-clause-calls
returns-then-is_up-clause-calls c =
    ok_so c.refuse.result _ (λ w h x latest n before.
    no_boot_calls w h x latest n c.args.self.now c.args.node.now c.args.disk.now before c.if-is_up.ensures)

pub returns-in-None-clause-calls : goal.returns-in-None-clause-calls
returns-in-None-clause-calls c =
    ok_so c.tell.result _ (λ w h x latest n before.
    boot_calls w h x latest n c.in_ok-boot.field-0 c.args.self.now c.args.node.now c.boot.new.self
    c.args.disk.now c.boot.new.disk before c.if-is_up.ensures c.in-None.is c.in_ok-boot.ensures.booted)

pub returns-in-Some-clause-calls : goal.returns-in-Some-clause-calls
returns-in-Some-clause-calls c =
    ok_so c.tell-in-Some.result _ (λ w h x latest n before.
    cut_boot_calls w h x latest n c.in_ok-boot.field-0 c.in-Some.fall c.args.self.now c.args.node.now
    c.boot.new.self c.args.disk.now c.boot.new.disk before c.if-is_up.ensures c.in-Some.is
    c.in_ok-boot.ensures.booted)
