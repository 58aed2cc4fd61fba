use Rattle.law_real_recovery.proofs.Arriving.{delivers}
use Rattle.law_real_recovery.proofs.real_frames_deliver_keys.Goals as goal

pub returns : goal.returns
returns c = delivers
