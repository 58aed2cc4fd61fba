use Rattle.law_recovery.proofs.Laws.{asks_again}
use Rattle.law_recovery.proofs.Requesting.{request_refused, request_sent}
use Rattle.law_recovery.proofs.key_exchange.a_joined_device_asks_for_a_link_key.Goals as goal

pub returns : goal.returns
returns c = record { refused = request_refused; sent = request_sent; stays = asks_again }
