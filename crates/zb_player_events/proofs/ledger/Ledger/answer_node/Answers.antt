-- Each act by its own function, or by what is armed.
use Rattle.zb_player_events.proofs.Counting.{by_event_calls, deliver_calls, dump_none, failure_none, none_called, own_calls, reset_none, roll_calls, stop_none}
use Rattle.std.proofs.Common.{Option, refl, subst}
use Rattle.zb_player_events.proofs.Going.{by_event, draw_is, event_is, failure_goes, frame_goes, own_goes, roll_goes, stop_goes}
use Rattle.zb_player_events.proofs.ledger.Ledger.answer_node.Goals as goal
use Rattle.zb_player_events.specs.Told.{Goes}
use Rattle.zb_player_events.specs.declared.acts.Act.TheVariants as act
use Rattle.zb_model.specs.Data.{Bytes, DoRoll}
use Rattle.zb_model.specs.Play.{ArmFail, ArmStop, Deliver, Own, PowerOn, Reset, RollOver, ShowRecord}
use Rattle.zb_model_real.specs.Real.{real}
use Rattle.law_run_steps.specs.Turns.{task_turn}
use Rattle.zb_player_node.specs.Events.{task_of}
use Rattle.zb_trace_watch.proofs.Starting.{on_ok}

pub returns-in-Own-clause-goes : goal.returns-in-Own-clause-goes
returns-in-Own-clause-goes c =
    on_ok c.handle.result _ _
    (λ goes w h x latest n event before draws is fits.
    by_event w h x latest c.args.number n (Own n (task_of c.in-Own.what)) event c.args.self.now c.handle.new.self
    c.handle.new.node c.handle.new.disk
    (event_is n c.args.act (act.Own c.in-Own.what) (Own n (task_of c.in-Own.what)) event c.in-Own.is refl is)
    (λ counts. own_goes w h x latest c.args.number n (task_of c.in-Own.what) c.args.self.now c.handle.new.self
    c.handle.new.node c.handle.new.disk (goes w h x latest n before)) fits)
    c.handle.ensures.goes

pub returns-in-Roll-clause-goes : goal.returns-in-Roll-clause-goes
returns-in-Roll-clause-goes c =
    on_ok c.handle-in-Roll.result _ _
    (λ goes w h x latest n event before draws is fits.
    by_event w h x latest c.args.number n (RollOver n) event c.args.self.now c.handle-in-Roll.new.self
    c.handle-in-Roll.new.node c.handle-in-Roll.new.disk
    (event_is n c.args.act act.Roll (RollOver n) event c.in-Roll.is refl is)
    (λ counts. roll_goes w h x latest c.args.number n c.args.self.now c.handle-in-Roll.new.self
    c.handle-in-Roll.new.node
    c.handle-in-Roll.new.disk
    (subst (λ (draw : Option Bytes). Goes w (task_turn real h x c.args.number n (DoRoll draw)) h
    latest c.args.self.now c.handle-in-Roll.new.self c.handle-in-Roll.new.node c.handle-in-Roll.new.disk)
    (draw_is w h c.args.self.now c.args.draws.now c.draw-draw.result before.told draws c.draw-draw.ensures)
    (goes w h x latest n before))) fits)
    c.handle-in-Roll.ensures.goes

pub returns-in-Deliver-clause-goes : goal.returns-in-Deliver-clause-goes
returns-in-Deliver-clause-goes c =
    on_ok c.deliver.result _ _
    (λ goes w h x latest n event before draws is fits.
    by_event w h x latest c.args.number n (Deliver c.in-Deliver.frame n) event c.args.self.now c.deliver.new.self
    c.deliver.new.node c.deliver.new.disk
    (event_is n c.args.act (act.Deliver c.in-Deliver.frame) (Deliver c.in-Deliver.frame n) event c.in-Deliver.is
    refl is)
    (λ counts. frame_goes w h x latest c.args.number c.in-Deliver.frame n c.args.self.now c.deliver.new.self
    c.deliver.new.node c.deliver.new.disk (goes w h x latest n before draws)) fits)
    c.deliver.ensures.goes

pub returns-in-Reset-clause-goes : goal.returns-in-Reset-clause-goes
returns-in-Reset-clause-goes c =
    on_ok c.reset.result _ _
    (λ goes w h x latest n event before draws is fits.
    by_event w h x latest c.args.number n (Reset n) event c.args.self.now c.reset.new.self c.reset.new.node
    c.reset.new.disk
    (event_is n c.args.act act.Reset (Reset n) event c.in-Reset.is refl is)
    (λ counts. goes w h x latest n before) fits)
    c.reset.ensures.goes

pub returns-in-Boot-clause-goes : goal.returns-in-Boot-clause-goes
returns-in-Boot-clause-goes c =
    on_ok c.boot.result _ _
    (λ goes w h x latest n event before draws is fits.
    by_event w h x latest c.args.number n (PowerOn n) event c.args.self.now c.boot.new.self c.boot.new.node
    c.boot.new.disk
    (event_is n c.args.act act.Boot (PowerOn n) event c.in-Boot.is refl is)
    (λ counts. goes w h x latest n before) fits)
    c.boot.ensures.goes

pub returns-in-Dump-clause-goes : goal.returns-in-Dump-clause-goes
returns-in-Dump-clause-goes c =
    on_ok c.dump.result _ _
    (λ goes w h x latest n event before draws is fits.
    by_event w h x latest c.args.number n (ShowRecord n) event c.args.self.now c.dump.new.self c.args.node.now
    c.dump.new.disk
    (event_is n c.args.act act.Dump (ShowRecord n) event c.in-Dump.is refl is)
    (λ counts. goes w h x latest n before) fits)
    c.dump.ensures.goes

pub returns-in-Stop-clause-goes : goal.returns-in-Stop-clause-goes
returns-in-Stop-clause-goes c =
    λ w h x latest n event before draws is fits.
    by_event w h x latest c.args.number n (ArmStop n c.in-Stop.calls c.in-Stop.torn.items) event c.args.self.now
    c.args.self.now c.arm_stop.new.self c.args.disk.now
    (event_is n c.args.act (act.Stop c.in-Stop.calls c.in-Stop.torn) (ArmStop n c.in-Stop.calls c.in-Stop.torn.items)
    event c.in-Stop.is refl is)
    (λ counts. stop_goes w h x latest c.args.number n c.in-Stop.calls c.in-Stop.torn.items c.args.self.now
    c.args.node.now
    c.arm_stop.new.self c.args.disk.now before c.arm_stop.ensures.leaves) fits

pub returns-in-Fail-clause-goes : goal.returns-in-Fail-clause-goes
returns-in-Fail-clause-goes c =
    λ w h x latest n event before draws is fits.
    by_event w h x latest c.args.number n (ArmFail n c.in-Fail.call) event c.args.self.now c.args.self.now
    c.arm_fail.new.self c.args.disk.now
    (event_is n c.args.act (act.Fail c.in-Fail.call) (ArmFail n c.in-Fail.call) event c.in-Fail.is refl is)
    (λ first. failure_goes w h x latest c.args.number n c.in-Fail.call c.args.self.now c.args.node.now
    c.arm_fail.new.self
    c.args.disk.now before
    (λ x k m there. c.arm_fail.ensures.leaves x k m there first)) fits

pub returns-in-Own-clause-calls : goal.returns-in-Own-clause-calls
returns-in-Own-clause-calls c =
    on_ok c.handle.result _ _
    (λ calls w h x latest n event before draws is fits.
    let same = event_is n c.args.act (act.Own c.in-Own.what) (Own n (task_of c.in-Own.what)) event c.in-Own.is refl
    is in
    own_calls w h x n (task_of c.in-Own.what) event c.args.disk.now c.handle.new.disk same
    (calls w h x latest n before))
    c.handle.ensures.calls

pub returns-in-Roll-clause-calls : goal.returns-in-Roll-clause-calls
returns-in-Roll-clause-calls c =
    on_ok c.handle-in-Roll.result _ _
    (λ calls w h x latest n event before draws is fits.
    let same = event_is n c.args.act act.Roll (RollOver n) event c.in-Roll.is refl is in
    roll_calls w h x n c.draw-draw.result event c.args.disk.now c.handle-in-Roll.new.disk same
    (draw_is w h c.args.self.now c.args.draws.now c.draw-draw.result before.told draws c.draw-draw.ensures)
    (calls w h x latest n before))
    c.handle-in-Roll.ensures.calls

pub returns-in-Deliver-clause-calls : goal.returns-in-Deliver-clause-calls
returns-in-Deliver-clause-calls c =
    on_ok c.deliver.result _ _
    (λ calls w h x latest n event before draws is fits.
    let same = event_is n c.args.act (act.Deliver c.in-Deliver.frame) (Deliver c.in-Deliver.frame n) event
    c.in-Deliver.is refl is in
    deliver_calls w h x n c.in-Deliver.frame event c.args.disk.now c.deliver.new.disk same
    (calls w h x latest n before draws))
    c.deliver.ensures.calls

pub returns-in-Reset-clause-calls : goal.returns-in-Reset-clause-calls
returns-in-Reset-clause-calls c =
    on_ok c.reset.result _ _
    (λ calls w h x latest n event before draws is fits.
    none_called w h x (Reset n) event c.args.disk.now c.reset.new.disk
    (reset_none w h x n)
    (event_is n c.args.act act.Reset (Reset n) event c.in-Reset.is refl is) calls)
    c.reset.ensures.calls

pub returns-in-Boot-clause-calls : goal.returns-in-Boot-clause-calls
returns-in-Boot-clause-calls c =
    on_ok c.boot.result _ _
    (λ calls w h x latest n event before draws is fits.
    by_event_calls w h x (PowerOn n) event c.args.disk.now c.boot.new.disk
    (event_is n c.args.act act.Boot (PowerOn n) event c.in-Boot.is refl is) (calls w h x latest n before))
    c.boot.ensures.calls

pub returns-in-Dump-clause-calls : goal.returns-in-Dump-clause-calls
returns-in-Dump-clause-calls c =
    on_ok c.dump.result _ _
    (λ calls w h x latest n event before draws is fits.
    none_called w h x (ShowRecord n) event c.args.disk.now c.dump.new.disk
    (dump_none w h x n)
    (event_is n c.args.act act.Dump (ShowRecord n) event c.in-Dump.is refl is) calls)
    c.dump.ensures.calls

pub returns-in-Stop-clause-calls : goal.returns-in-Stop-clause-calls
returns-in-Stop-clause-calls c =
    λ w h x latest n event before draws is fits.
    none_called w h x (ArmStop n c.in-Stop.calls c.in-Stop.torn.items) event c.args.disk.now
    c.args.disk.now (stop_none w h x n c.in-Stop.calls c.in-Stop.torn.items)
    (event_is n c.args.act (act.Stop c.in-Stop.calls c.in-Stop.torn) (ArmStop n c.in-Stop.calls c.in-Stop.torn.items)
    event c.in-Stop.is refl is) refl

pub returns-in-Fail-clause-calls : goal.returns-in-Fail-clause-calls
returns-in-Fail-clause-calls c =
    λ w h x latest n event before draws is fits.
    none_called w h x (ArmFail n c.in-Fail.call) event c.args.disk.now c.args.disk.now
    (failure_none w h x n c.in-Fail.call)
    (event_is n c.args.act (act.Fail c.in-Fail.call) (ArmFail n c.in-Fail.call) event c.in-Fail.is refl is) refl
