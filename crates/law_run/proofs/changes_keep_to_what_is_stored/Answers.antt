use Rattle.law_run.proofs.StoredChanges.{changes_again}
use Rattle.law_run.proofs.StoredFits.{fits_same}
use Rattle.law_run.proofs.changes_keep_to_what_is_stored.Goals as goal

pub returns : goal.returns
returns c = record { made = changes_again; fit = fits_same }
