use Rattle.zb_trace_watch.proofs.Declaring.{declares_none}
use Rattle.zb_trace_watch.proofs.nodes.Nodes.new.Goals as goal

pub returns : goal.returns
returns c = declares_none c.new.result c.new-2.result c.new.ensures.empty c.new-2.ensures.empty
