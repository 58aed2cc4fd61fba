use Rattle.law_recovery.proofs.Stopping.{after_stop, before_stop}
use Rattle.law_recovery.proofs.lost_frames.a_stop_leaves_an_exchange.Goals as goal

pub returns : goal.returns
returns c = record { before = before_stop; after = after_stop }
