use Rattle.std.proofs.Common.{◌∙◌}
use Rattle.zb_trace_watch.specs.Watching.{is_somebody, said}
use Rattle.zb_trace_watch.proofs.Starting.{watch_private}
use Rattle.zb_trace_watch.proofs.watch.Watch.private.Goals as goal

pub returns : goal.returns
returns c = λ tools h stands. c.private.ensures tools is_somebody (said tools h) stands.words ∙ watch_private tools h
