-- Each group is the answer with the counters that its node takes.
use Rattle.law_run.proofs.LawfulRuns.{lawful}
use Rattle.law_run.proofs.transcripts_are_lawful.Goals as goal

pub returns : goal.returns
returns c = lawful
