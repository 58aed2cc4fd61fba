use Rattle.zb_stored_tables.proofs.CoreLaws.{core_adds, core_keeps, core_newest, core_idle}
use Rattle.zb_stored_tables.proofs.law.a_core_over_tables_keeps_the_law.Goals as goal

pub returns-clause-adds : goal.returns-clause-adds
returns-clause-adds c = core_adds

pub returns-clause-keeps : goal.returns-clause-keeps
returns-clause-keeps c = core_keeps

pub returns-clause-newest : goal.returns-clause-newest
returns-clause-newest c = core_newest

pub returns-clause-idle : goal.returns-clause-idle
returns-clause-idle c = core_idle
