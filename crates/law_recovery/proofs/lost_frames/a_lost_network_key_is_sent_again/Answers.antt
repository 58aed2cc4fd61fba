use Rattle.law_recovery.proofs.LostKnocking.{sent_again}
use Rattle.law_recovery.proofs.lost_frames.a_lost_network_key_is_sent_again.Goals as goal

pub returns : goal.returns
returns c = sent_again
