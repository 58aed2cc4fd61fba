-- By what the rules do with keys.
use Rattle.law_run.proofs.CentreAlone.{centre-alone}
use Rattle.law_run.proofs.the_centre_alone_draws_and_admits.Goals as goal

pub returns : goal.returns
returns c = centre-alone
