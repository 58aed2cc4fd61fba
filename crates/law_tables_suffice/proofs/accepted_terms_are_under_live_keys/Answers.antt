-- What opens a NWK frame is a usable row, and so a live one, which is found by its key.
use Rattle.law_tables_suffice.proofs.LiveKeys.{accepts_live}
use Rattle.law_tables_suffice.proofs.accepted_terms_are_under_live_keys.Goals as goal

pub returns : goal.returns
returns c = accepts_live
