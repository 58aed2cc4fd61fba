use Rattle.law_recovery.proofs.Laws as law
use Rattle.law_recovery.proofs.key_exchange.a_joined_device_keeps_an_offered_key.Goals as goal

pub returns : goal.returns
returns c = record { refused = law.keep_refused; keeps = law.keeps; silent = law.keeps_silently }
