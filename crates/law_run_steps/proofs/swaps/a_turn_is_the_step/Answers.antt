-- By the result of each event.
use Rattle.law_run_steps.proofs.Turns.{left_setting, step_comes}
use Rattle.law_run_steps.proofs.swaps.a_turn_is_the_step.Goals as goal

pub returns : goal.returns
returns c = record { same = step_comes; keeps = left_setting }
