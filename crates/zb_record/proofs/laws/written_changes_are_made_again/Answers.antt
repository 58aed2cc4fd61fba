use Rattle.zb_record.proofs.Entries.{entries_again}
use Rattle.zb_record.proofs.laws.written_changes_are_made_again.Goals as goal

pub returns : goal.returns
returns c = entries_again
