use Rattle.law_recovery.proofs.Laws as law
use Rattle.law_recovery.proofs.key_exchange.the_centre_confirms_a_proved_key.Goals as goal

pub returns : goal.returns
returns c = record { refused = law.confirm_refused; confirms = law.confirms }
