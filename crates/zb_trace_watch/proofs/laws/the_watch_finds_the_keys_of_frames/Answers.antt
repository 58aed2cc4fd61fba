-- The readers are the same.
use Rattle.zb_trace_watch.proofs.Starting.{readers_find}
use Rattle.zb_trace_watch.proofs.laws.the_watch_finds_the_keys_of_frames.Goals as goal

pub returns : goal.returns
returns c = readers_find
