use Rattle.std.proofs.Common.{sym}
use Rattle.zb_trace_watch.proofs.Declaring.{first_address, nothing_there}
use Rattle.zb_trace_watch.proofs.nodes.name_it.Goals as goal

pub returns-in_ok-insert : goal.returns-in_ok-insert
returns-in_ok-insert c =
    first_address c.args.addresses.now c.insert.new.self c.args.name c.args.eui
    (nothing_there _ (sym c.if-not-contains_key.ensures)) c.in_ok-insert.ensures.updates.0
