use Rattle.zb_trace_watch.proofs.Starting.{watch_starts}
use Rattle.zb_trace_watch.specs.Watching.{is_somebody}
use Rattle.zb_trace_watch.proofs.watch.Watch.new.Goals as goal

pub returns : goal.returns
returns c = λ tools. watch_starts tools c.new.result c.in_ok-new.field-0 c.new.ensures
    (c.in_ok-new.ensures tools is_somebody)
