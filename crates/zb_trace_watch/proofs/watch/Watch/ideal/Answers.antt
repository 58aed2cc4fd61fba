use Rattle.zb_trace_watch.specs.Watching.{is_somebody, said}
use Rattle.zb_trace_watch.proofs.watch.Watch.ideal.Goals as goal

pub returns : goal.returns
returns c = λ tools h stands. c.ideal.ensures tools is_somebody (said tools h) stands.words
