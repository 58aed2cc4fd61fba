use Rattle.zb_trace_watch.proofs.Owners.{added_under}
use Rattle.zb_trace_watch.proofs.holdings.Holdings+Key.add_under.Goals as goal

pub returns-in-Some : goal.returns-in-Some
returns-in-Some c = added_under c.add.result c.add.new.self c.args.self.now c.args.owner c.in-Some.owner c.args.key
    c.in-Some.is c.add.ensures
