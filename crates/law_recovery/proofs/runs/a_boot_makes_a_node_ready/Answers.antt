use Rattle.law_recovery.proofs.Booted.{boots}
use Rattle.law_recovery.proofs.runs.a_boot_makes_a_node_ready.Goals as goal

pub returns : goal.returns
returns c = boots
