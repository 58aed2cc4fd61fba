use Rattle.zb_stored_tables.proofs.CoreLaws.{state_adds, state_keeps}
use Rattle.zb_stored_tables.proofs.law.a_boot_gives_the_tables_again.Goals as goal

pub returns-clause-adds : goal.returns-clause-adds
returns-clause-adds c = state_adds

pub returns-clause-keeps : goal.returns-clause-keeps
returns-clause-keeps c = state_keeps
