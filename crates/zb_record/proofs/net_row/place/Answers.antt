use Rattle.zb_record.proofs.SenderLemmas.{goes_past, is_here}
use Rattle.zb_record.proofs.net_row.place.Goals as goal

pub returns-then-floor-sender : goal.returns-then-floor-sender
returns-then-floor-sender c = is_here _ _ _ _ c.loop-i-test.true c.if-floor-sender.true c.loop-i.invariant

pub loop-i-preserved : goal.loop-i-preserved
loop-i-preserved c = goes_past _ _ _ _ c.loop-i-test.true c.if-floor-sender.false c.loop-i.invariant
