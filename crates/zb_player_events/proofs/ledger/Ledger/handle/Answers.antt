-- By the power that the node has, and by how the event ends.
use Rattle.zb_player_events.proofs.Counting.{cut_calls, down_calls, ok_so, whole_calls}
use Rattle.std.proofs.Common.{Some, ap, ◌∙◌}
use Rattle.zb_player_events.proofs.Going.{cut_goes, down_goes, named_as, whole_goes}
use Rattle.zb_player_events.proofs.Telling.{refused_as}
use Rattle.zb_player_events.proofs.ledger.Ledger.handle.Goals as goal
use Rattle.zb_model.specs.Data.{Down}
use Rattle.zb_model.specs.Play.{stations}
use Rattle.zb_player_node.specs.Events.{task_of}
use Rattle.zb_player_node.specs.declared.node.Handled.{Handled}
use Rattle.zb_trace_watch.proofs.Starting.{on_ok}

pub returns-then-not-is_up-clause-goes : goal.returns-then-not-is_up-clause-goes
returns-then-not-is_up-clause-goes c =
    on_ok c.refuse.result _ _
    (λ adds w h x latest n before.
    down_goes w h x latest c.args.event n (task_of c.args.what.now) c.args.self.now c.refuse.new.self c.args.node.now
    c.args.disk.now before c.if-not-is_up.ensures
    (refused_as w h c.args.event n Down c.down.result c.args.self.now c.refuse.new.self c.down.ensures
    (adds w h n before.told (named_as w n _ _ c.name-name.ensures before.seat.called))))
    c.refuse.ensures.adds

pub returns-in-Some-Whole-clause-goes : goal.returns-in-Some-Whole-clause-goes
returns-in-Some-Whole-clause-goes c =
    on_ok c.tell_answer.result _ _
    (λ tells w h x latest n before.
    whole_goes w h x latest c.args.event n (task_of c.args.what.now) c.next_frame.result c.name-name.result
    c.handle.result c.handle.new.plan c.args.self.now
    (record { transcript = c.tell_answer.new.to; plan = c.handle.new.plan }) c.args.node.now c.handle.new.self
    c.args.disk.now c.handle.new.disk
    before c.if-not-is_up.ensures c.name-name.ensures
    (c.in-Some-Whole.is ∙ ap (λ (x : Handled). Some x) c.in-Some-Whole.field-0-is) c.handle.ensures.event
    c.next_frame.ensures (λ k called spelled own. tells (stations w) k called spelled own))
    c.tell_answer.ensures.tells

pub returns-in_ok-tell_stored-in-Some-Cut-clause-goes : goal.returns-in_ok-tell_stored-in-Some-Cut-clause-goes
returns-in_ok-tell_stored-in-Some-Cut-clause-goes c =
    on_ok c.fallen.result _ _
    (λ adds w h x latest n before.
    cut_goes w h x latest c.args.event n (task_of c.args.what.now) c.name-name.result c.handle.result c.handle.new.plan
    c.in-Some-Cut.fall c.args.self.now
    (record { transcript = c.tell_stored.new.to; plan = c.handle.new.plan }) c.fallen.new.self c.args.node.now
    c.handle.new.self c.args.disk.now c.handle.new.disk
    before c.if-not-is_up.ensures c.name-name.ensures
    (c.in-Some-Cut.is ∙ ap (λ (x : Handled). Some x) c.in-Some-Cut.field-0-is) c.handle.ensures.event
    (λ k called own. c.in_ok-tell_stored-in-Some-Cut.ensures.tells (stations w) k called own)
    (λ ls k told called. adds w ls k told called))
    c.fallen.ensures.adds

pub returns-then-not-is_up-clause-calls : goal.returns-then-not-is_up-clause-calls
returns-then-not-is_up-clause-calls c =
    ok_so c.refuse.result _ (λ w h x latest n before.
    down_calls w h x latest n (task_of c.args.what.now) c.args.self.now c.args.node.now c.args.disk.now before
    c.if-not-is_up.ensures)

pub returns-in-Some-Whole-clause-calls : goal.returns-in-Some-Whole-clause-calls
returns-in-Some-Whole-clause-calls c =
    ok_so c.tell_answer.result _ (λ w h x latest n before.
    whole_calls w h x latest n (task_of c.args.what.now) c.handle.result c.handle.new.plan c.args.self.now
    c.args.node.now c.handle.new.self c.args.disk.now c.handle.new.disk
    before c.if-not-is_up.ensures (c.in-Some-Whole.is ∙ ap (λ (x : Handled). Some x) c.in-Some-Whole.field-0-is)
    c.handle.ensures.event)

pub returns-in_ok-tell_stored-in-Some-Cut-clause-calls : goal.returns-in_ok-tell_stored-in-Some-Cut-clause-calls
returns-in_ok-tell_stored-in-Some-Cut-clause-calls c =
    ok_so c.fallen.result _ (λ w h x latest n before.
    cut_calls w h x latest n (task_of c.args.what.now) c.handle.result c.handle.new.plan c.in-Some-Cut.fall
    c.args.self.now c.args.node.now c.handle.new.self c.args.disk.now c.handle.new.disk
    before c.if-not-is_up.ensures (c.in-Some-Cut.is ∙ ap (λ (x : Handled). Some x) c.in-Some-Cut.field-0-is)
    c.handle.ensures.event)
