use Rattle.zb_record.proofs.Mapping.{next_read}
use Rattle.zb_record.proofs.net_row.drop_net.Goals as goal

pub loop-row-preserved : goal.loop-row-preserved
loop-row-preserved c = next_read c.loop-row.row-index c.args.rows.now c.loop-row.rows _ c.drop_at.new.self
    c.loop-row-test.true c.drop_at.ensures c.loop-row.invariant
