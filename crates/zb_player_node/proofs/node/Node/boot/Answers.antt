use Rattle.std.proofs.Common.{Some, refl, sym, ap, subst}
use Rattle.zb_armed_host.specs.declared.arms.Arms.{Arms}
use Rattle.zb_player_node.proofs.Conditions.{was_booted, boot_fell}
use Rattle.zb_player_node.specs.Answers.{HasBootedOn, IsStillDown}
use Rattle.zb_player_node.specs.Nodes.{IsIn}
use Rattle.zb_player_node.specs.Values.{NodeValue, running}
use Rattle.zb_player_node.proofs.node.Node.boot.Goals as goal

pub returns-in-Ok-clause-booted : goal.returns-in-Ok-clause-booted
returns-in-Ok-clause-booted c = λ x number is off.
    let old = c.args.disk.now in
    let node : NodeValue =
    record {
      peer = c.self.inside.peer;
      config = c.self.inside.config.value;
      machine = Rattle.std.specs.Prelude.option_map running c.self.inside.machine;
      arms = c.self.inside.arms;
    } in
    was_booted node (running c.in-Ok.machine) old c.boot.new.disk (rw c.as_ref.ensures at c.in-Ok.ensures) x number
    (subst (λ (n : NodeValue). IsIn x number n old) (sym c.self.view_is) is) off

pub returns-in-Err-Fault-clause-booted : goal.returns-in-Err-Fault-clause-booted
returns-in-Err-Fault-clause-booted c = λ x number is off.
    let old = c.args.disk.now in
    let node : NodeValue =
    record {
      peer = c.self.inside.peer;
      config = c.self.inside.config.value;
      machine = Rattle.std.specs.Prelude.option_map running c.self.inside.machine;
      arms = c.self.inside.arms;
    } in
    subst (λ (a : Arms). IsStillDown x number c.in-Err-Fault.fallen.fall old
    (record { peer = node.peer; config = node.config; machine = node.machine; arms = a }) c.boot.new.disk)
    (sym c.spend.ensures)
    (boot_fell node c.in-Err-Fault.fallen old c.boot.new.disk (rw c.in-Err-Fault.field-0-is at c.in-Err-Fault.ensures)
    x number (subst (λ (n : NodeValue). IsIn x number n old) (sym c.self.view_is) is) off)

pub returns-in-Err-Fault-clause-any : goal.returns-in-Err-Fault-clause-any
returns-in-Err-Fault-clause-any c =
    let old = c.args.disk.now in
    let node : NodeValue =
    record {
      peer = c.self.inside.peer;
      config = c.self.inside.config.value;
      machine = Rattle.std.specs.Prelude.option_map running c.self.inside.machine;
      arms = c.self.inside.arms;
    } in
    let fallen = c.in-Err-Fault.fallen in
    subst (λ (n : NodeValue). HasBootedOn n old (Some fallen.fall)
    (record { peer = node.peer; config = node.config; machine = node.machine; arms = c.spend.new.arms })
    c.boot.new.disk) c.self.view_is (record {
      fallen = fallen;
      ended = (rw c.in-Err-Fault.field-0-is at c.in-Err-Fault.ensures).1;
      fall_is = refl;
      node_is =
          ap (λ (a : Arms). let n : NodeValue =
          record { peer = node.peer; config = node.config; machine = node.machine; arms = a } in n) c.spend.ensures;
    })
