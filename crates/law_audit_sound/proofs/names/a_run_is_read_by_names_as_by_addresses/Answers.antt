-- The law, as it was proved.
use Rattle.law_audit_sound.proofs.Run.{run_read_same}
use Rattle.law_audit_sound.proofs.names.a_run_is_read_by_names_as_by_addresses.Goals as goal

pub returns : goal.returns
returns c = run_read_same
