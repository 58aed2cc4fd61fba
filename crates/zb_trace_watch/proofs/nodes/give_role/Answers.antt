use Rattle.std.proofs.Common.{sym}
use Rattle.zb_trace_watch.proofs.Declaring.{first_role, nothing_there}
use Rattle.zb_trace_watch.proofs.nodes.give_role.Goals as goal

pub returns-in_ok-insert : goal.returns-in_ok-insert
returns-in_ok-insert c = first_role c.args.roles.now c.insert.new.self c.args.eui c.args.role
    (nothing_there _ (sym c.if-not-contains_key.ensures)) c.in_ok-insert.ensures.updates.0
