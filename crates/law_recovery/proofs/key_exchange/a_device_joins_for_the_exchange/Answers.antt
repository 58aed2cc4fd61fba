use Rattle.law_recovery.proofs.Joining.{is_joined}
use Rattle.law_recovery.proofs.key_exchange.a_device_joins_for_the_exchange.Goals as goal

pub returns : goal.returns
returns c = is_joined
