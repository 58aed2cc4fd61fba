-- By the definition, and for a run line by line.
use Rattle.law_run.proofs.CountedRuns.{reserve-block}
use Rattle.law_run.proofs.a_reserve_is_one_block.Goals as goal

pub returns : goal.returns
returns c = reserve-block
