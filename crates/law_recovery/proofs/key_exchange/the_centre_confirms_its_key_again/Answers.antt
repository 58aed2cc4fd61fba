use Rattle.law_recovery.proofs.Again.{confirm_again_refused, confirmed_again}
use Rattle.law_recovery.proofs.key_exchange.the_centre_confirms_its_key_again.Goals as goal

pub returns : goal.returns
returns c = record { refused = confirm_again_refused; confirms = confirmed_again }
