use Rattle.zb_trace_watch.specs.Watching.{is_somebody}
use Rattle.zb_trace_watch.proofs.watch.Watch.of_nobody.Goals as goal

pub returns-clause-words : goal.returns-clause-words
returns-clause-words c = λ tools s. c.in_ok-line.ensures tools is_somebody s
