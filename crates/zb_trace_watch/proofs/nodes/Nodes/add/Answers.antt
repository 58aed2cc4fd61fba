use Rattle.zb_trace_watch.proofs.Declaring.{declares_more, not_nobody}
use Rattle.zb_trace_watch.proofs.nodes.Nodes.add.Goals as goal

pub returns : goal.returns
returns c =
    declares_more c.args.self.now c.name_it.new.addresses c.give_role.new.roles c.first_centre-self.result c.args.name
    c.args.eui c.args.role c.in_ok-name_it.ensures
    c.in_ok-give_role.ensures c.first_centre-self.ensures.first
    (not_nobody c.args.eui.0 c.first_centre-self.ensures.somebody)
