use Rattle.zb_stored_tables.proofs.CoreValues.{value_adds, value_keeps, value_newest, value_idle, value_leads}
use Rattle.zb_stored_tables.proofs.law.a_core_of_setting_and_tables_keeps_the_law.Goals as goal

pub returns-clause-adds : goal.returns-clause-adds
returns-clause-adds c = value_adds

pub returns-clause-keeps : goal.returns-clause-keeps
returns-clause-keeps c = value_keeps

pub returns-clause-newest : goal.returns-clause-newest
returns-clause-newest c = value_newest

pub returns-clause-idle : goal.returns-clause-idle
returns-clause-idle c = value_idle

pub returns-clause-leads : goal.returns-clause-leads
returns-clause-leads c = value_leads
