use Rattle.law_recovery.proofs.Laws as law
use Rattle.law_recovery.proofs.key_exchange.a_device_is_confirmed.Goals as goal

pub returns : goal.returns
returns c = record { refused = law.end_refused; confirmed = law.ends }
