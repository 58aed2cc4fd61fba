use Rattle.zb_record.proofs.OneLimit.{read_one, one_limit_kept}
use Rattle.zb_record.proofs.laws.a_first_version_has_one_limit.Goals as goal

pub returns-clause-read : goal.returns-clause-read
returns-clause-read c = read_one

pub returns-clause-redone : goal.returns-clause-redone
returns-clause-redone c = one_limit_kept
