use Rattle.zb_stored_tables.proofs.CoreLaws.{bytes_give_kept}
use Rattle.zb_stored_tables.proofs.law.what_bytes_give_is_kept.Goals as goal

pub returns : goal.returns
returns c = bytes_give_kept
