use Rattle.zb_trace_watch.proofs.Owners.{added_at}
use Rattle.zb_trace_watch.proofs.holdings.Holdings+u64.add_at.Goals as goal

pub returns-in-Some : goal.returns-in-Some
returns-in-Some c = added_at c.add.result c.add.new.self c.args.self.now c.args.node c.in-Some.number c.args.key
    c.in-Some.is c.add.ensures
