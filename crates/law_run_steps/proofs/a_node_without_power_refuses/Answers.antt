-- By the definition of a step whose node has no power.
use Rattle.law_run_steps.proofs.Others.{own-down, roll-down, frame-down, reset-down, boot-down}
use Rattle.law_run_steps.proofs.a_node_without_power_refuses.Goals as goal

pub returns : goal.returns
returns c = record { own = own-down; roll = roll-down; frame = frame-down; reset = reset-down; boot = boot-down }
