use Rattle.std.proofs.Common.{sym}
use Rattle.zb_inspect_frame.proofs.Noted.{noted, nothing_there}
use Rattle.zb_inspect_frame.proofs.addresses.note.Goals as goal

pub returns-in_ok-insert : goal.returns-in_ok-insert
returns-in_ok-insert c = noted c.args.by_short.now c.insert.new.self c.args.addr.0 c.args.addr.1
    (nothing_there _ (sym c.if-not-contains_key.ensures)) c.in_ok-insert.ensures.updates.0
