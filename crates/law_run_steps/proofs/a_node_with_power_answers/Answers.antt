-- By the definition of a step whose node has power.
use Rattle.law_run_steps.proofs.Others.{own-up, roll-up, frame-up, frame-none, boot-up}
use Rattle.law_run_steps.proofs.a_node_with_power_answers.Goals as goal

pub returns : goal.returns
returns c = record { own = own-up; roll = roll-up; frame = frame-up; no_frame = frame-none; boot = boot-up }
