use Rattle.zb_inspect_frame.proofs.Noted.{next_noted}
use Rattle.zb_inspect_frame.proofs.addresses.Addresses.new.Goals as goal

pub loop-addr-preserved : goal.loop-addr-preserved
loop-addr-preserved c =
    λ q. next_noted c.loop-addr.by_short c.note.new.by_short c.args.list.now c.loop-addr.addr-index q
    c.loop-addr-test.true (c.in_ok-note.ensures q) (c.loop-addr.invariant q)
