use Rattle.std.proofs.Common.{if◌then◌else◌}
use Rattle.zb_model.specs.State.{NetKey, same_key}
use Rattle.zb_record.specs.Senders.{HasRoom, live_floor}
use Rattle.zb_record.proofs.Mapping.{next_read, room_beside}
use Rattle.zb_record.proofs.net_row.store_net.Goals as goal

pub store_at-requires : goal.store_at-requires
store_at-requires c =
    room_beside (λ (r : NetKey). if same_key r.key c.args.key.now.0 then live_floor c.args.sender.0 c.args.value r
    else r) HasRoom c.loop-row.row-index c.args.rows.now c.loop-row.rows c.row-item.result c.loop-row-test.true
    c.requires c.loop-row.invariant

pub loop-row-preserved : goal.loop-row-preserved
loop-row-preserved c = next_read c.loop-row.row-index c.args.rows.now c.loop-row.rows _ c.store_at.new.self
    c.loop-row-test.true c.store_at.ensures c.loop-row.invariant
