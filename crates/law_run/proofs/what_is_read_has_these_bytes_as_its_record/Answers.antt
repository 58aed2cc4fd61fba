-- Each reading, undone.
use Rattle.law_run.proofs.RecordBack.{spelled-back}
use Rattle.law_run.proofs.what_is_read_has_these_bytes_as_its_record.Goals as goal

pub returns : goal.returns
returns c = spelled-back
