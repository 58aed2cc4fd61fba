-- Each seal line of a run fits the lines before it.
use Rattle.law_run.proofs.Runs.{fresh}
use Rattle.law_run.proofs.no_nonce_comes_again.Goals as goal

pub returns : goal.returns
returns c = fresh
