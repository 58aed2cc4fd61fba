use Rattle.zb_stored_tables.proofs.Readings.{bytes_again}
use Rattle.zb_stored_tables.proofs.law.what_is_read_has_these_bytes_as_its_record.Goals as goal

pub returns : goal.returns
returns c = bytes_again
