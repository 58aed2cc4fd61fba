use Rattle.zb_stored_tables.proofs.InMemory.{recorded_booted, recorded_shown, boot_of_counted, boot_of_heard, boot_of_sealed, boot_of_accepted}
use Rattle.zb_stored_tables.proofs.law.what_is_in_memory_alone_is_not_recorded.Goals as goal

pub returns-clause-boots : goal.returns-clause-boots
returns-clause-boots c = recorded_booted

pub returns-clause-forgets : goal.returns-clause-forgets
returns-clause-forgets c = recorded_shown

pub returns-clause-seals : goal.returns-clause-seals
returns-clause-seals c = boot_of_counted

pub returns-clause-hears : goal.returns-clause-hears
returns-clause-hears c = boot_of_heard

pub returns-clause-sealed : goal.returns-clause-sealed
returns-clause-sealed c = boot_of_sealed

pub returns-clause-accepted : goal.returns-clause-accepted
returns-clause-accepted c = boot_of_accepted
