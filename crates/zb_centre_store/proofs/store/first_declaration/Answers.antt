use Rattle.zb_centre_store.proofs.StoreLemmas.{first_fits}
use Rattle.zb_centre_store.proofs.store.first_declaration.Goals as goal

pub returns-clause-fits : goal.returns-clause-fits
returns-clause-fits c = first_fits c.args.key.0 c.requires
