use Rattle.zb_trace_watch.proofs.Logged.{declare_follows}
use Rattle.zb_trace_watch.proofs.watch.Watch.declare.Goals as goal

pub returns : goal.returns
returns c = λ tools h station is find stands. declare_follows tools c.args.self.now h c.add.new.self station stands
    (c.in_ok-add.ensures _ station is stands.nodes)
