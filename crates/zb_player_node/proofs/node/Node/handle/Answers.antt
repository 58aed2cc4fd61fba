use Rattle.std.proofs.Common.{Bool, [], Option, Some, None, option_map, refl, sym, ◌∙◌, ap, subst}
use Rattle.std.specs.Prelude.{if◌then◌else◌}
use Rattle.zb_armed_host.specs.declared.arms.Arms.{Arms}
use Rattle.zb_core.specs.Events.{task_of}
use Rattle.zb_model.specs.Answer.{answer}
use Rattle.zb_model_real.specs.Real.{real}
use Rattle.zb_player_node.specs.Answers.{HasHandledOn, WasCut}
use Rattle.zb_player_node.specs.declared.node.Handled.TheVariants.{Cut}
use Rattle.zb_player_node.proofs.Conditions.{was_answered, was_cut}
use Rattle.zb_player_node.specs.Nodes.{IsIn}
use Rattle.zb_player_node.specs.Values.{NodeValue, running}
use Rattle.zb_player_node.specs.declared.machine.Machine.{Machine}
use Rattle.zb_player_node.proofs.node.Node.handle.Goals as goal

pub returns-in-Ok-clause-event : goal.returns-in-Ok-clause-event
returns-in-Ok-clause-event c = λ x number is can.
    let in_it = c.self.inside in
    let seen : Option Machine → NodeValue =
    λ o. record {
      peer = in_it.peer;
      config = in_it.config.value;
      machine = option_map running o;
      arms = in_it.arms;
    } in
    let here = sym c.self.view_is ∙ ap seen c.in-Some.is in
    was_answered (task_of c.args.event.now) (seen in_it.machine) (running c.in-Some.machine)
    (running c.handle.new.self) c.handle.new.plan c.args.disk.now c.handle.new.disk
    c.in-Ok.ensures.role c.in-Ok.ensures.given x number
    (subst (λ (n : NodeValue). IsIn x number n c.args.disk.now) here is) can

pub returns-in-Err-clause-event : goal.returns-in-Err-clause-event
returns-in-Err-clause-event c = λ x number is can.
    let in_it = c.self.inside in
    let seen : Option Machine → NodeValue =
    λ o. record {
      peer = in_it.peer;
      config = in_it.config.value;
      machine = option_map running o;
      arms = in_it.arms;
    } in
    let here = sym c.self.view_is ∙ ap seen c.in-Some.is in
    rw c.take_power.ensures
    (subst (λ (a : Arms). WasCut (answer real x.setting x.state (task_of c.args.event.now)) x number
    c.keep_stored.new.changes.items c.in-Err.cut.fallen.fall c.args.disk.now
    (record { peer = in_it.peer; config = in_it.config.value; machine = None; arms = a }) c.handle.new.disk)
    (sym c.spend.ensures)
    (was_cut (task_of c.args.event.now) (seen in_it.machine) (running c.in-Some.machine)
    (running c.handle.new.self).host c.handle.new.plan c.in-Err.cut c.keep_stored.new.changes.items
    c.args.disk.now c.handle.new.disk
    c.in-Err.ensures.given
    (c.keep_stored.ensures ∙ ap (λ (b : Bool). if b then c.handle.new.plan.changes.items else [])
    c.in-Err.ensures.stored) x number (subst (λ (n : NodeValue). IsIn x number n c.args.disk.now) here is) can))

pub returns-in-Err-clause-any : goal.returns-in-Err-clause-any
returns-in-Err-clause-any c =
    let in_it = c.self.inside in
    let seen : Option Machine → Arms → NodeValue =
    λ o a. record { peer = in_it.peer; config = in_it.config.value; machine = option_map running o; arms = a } in
    let cut = c.in-Err.cut in
    let items = c.handle.new.plan.changes.items in
    rw c.take_power.ensures
    (subst (λ (n : NodeValue). HasHandledOn n c.args.disk.now (Some (Cut cut.fallen.fall))
    c.keep_stored.new.changes.items (seen None c.spend.new.arms) c.handle.new.disk) c.self.view_is (record {
      fallen = cut.fallen;
      ended = c.in-Err.ensures.ended;
      fall_is = refl;
      arms = c.spend.ensures;
      none = λ off.
          c.keep_stored.ensures ∙ ap (λ (b : Bool). if b then items else []) (c.in-Err.ensures.stored ∙ off);
    }))
