use Rattle.zb_record.proofs.Mapping.{next_read}
use Rattle.zb_record.proofs.net_row.hear.Goals as goal

pub loop-floor-preserved : goal.loop-floor-preserved
loop-floor-preserved c = next_read c.loop-floor.floor-index c.args.floors.now c.loop-floor.floors _ c.hear.new.self
    c.loop-floor-test.true c.hear.ensures c.loop-floor.invariant
