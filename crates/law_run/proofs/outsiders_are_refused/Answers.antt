-- What an outsider seals or forges is under a key that is known outside; what is accepted is under a live key.
use Rattle.law_run.proofs.OutsiderRuns.{outsiders-refused}
use Rattle.law_run.proofs.outsiders_are_refused.Goals as goal

pub returns : goal.returns
returns c = outsiders-refused
