use Rattle.law_recovery.proofs.Again.{again_refused, again_offered}
use Rattle.law_recovery.proofs.key_exchange.the_centre_offers_its_key_again.Goals as goal

pub returns : goal.returns
returns c = record { refused = again_refused; offers = again_offered }
