use Rattle.law_recovery.proofs.Laws.{shows_again}
use Rattle.law_recovery.proofs.Proving.{proof_refused, proof_sent}
use Rattle.law_recovery.proofs.key_exchange.a_device_proves_its_key.Goals as goal

pub returns : goal.returns
returns c = record { refused = proof_refused; sent = proof_sent; stays = shows_again }
