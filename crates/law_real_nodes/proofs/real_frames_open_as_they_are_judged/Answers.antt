-- By what real frames show.
use Rattle.law_real_nodes.proofs.Opening.{opens_as_judged}
use Rattle.law_real_nodes.proofs.real_frames_open_as_they_are_judged.Goals as goal

pub returns : goal.returns
returns c = opens_as_judged
