-- Field by field.
use Rattle.law_run.proofs.RecordLaws.{read-back}
use Rattle.law_run.proofs.a_record_is_read_back.Goals as goal

pub returns : goal.returns
returns c = read-back
