use Rattle.zb_stored_tables.proofs.ReadChanges.{read_in_range}
use Rattle.zb_stored_tables.proofs.law.what_is_read_is_in_range.Goals as goal

pub returns : goal.returns
returns c = λ cut bytes rest change are read. (read_in_range cut bytes rest change are read).0
