use Rattle.law_real_recovery.proofs.ArrivingRelays.{delivers_relays}
use Rattle.law_real_recovery.proofs.real_frames_deliver_relays.Goals as goal

pub returns : goal.returns
returns c = delivers_relays
