use Rattle.zb_record.proofs.Mapping.{next_read}
use Rattle.zb_record.proofs.net_row.boot_floors.Goals as goal

pub loop-floor-preserved : goal.loop-floor-preserved
loop-floor-preserved c = next_read c.loop-floor.floor-index c.args.floors.now c.loop-floor.floors _ c.boot.new.self
    c.loop-floor-test.true c.boot.ensures c.loop-floor.invariant
