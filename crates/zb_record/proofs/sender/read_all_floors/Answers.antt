use Rattle.std.proofs.Common.{[], map}
use Rattle.std.proofs.lemmas.Result.{err_from_is_err_and}
use Rattle.zb_record.specs.Rows.{net_seen, all_floors_at}
use Rattle.zb_record.proofs.Placing.{fill_next, fill_stop, fill_end}
use Rattle.zb_record.proofs.sender.read_all_floors.Goals as goal

pub returns-in_err-read_live_floors : goal.returns-in_err-read_live_floors
returns-in_err-read_live_floors c =
    let p = err_from_is_err_and c.from_residual.result c.from_residual.ensures.1 in
    rw (p.1, p.2)
    (fill_stop c.loop-row.row-index c.args.rows.now c.loop-row.rows c.loop-row.reader.rest.now
    (all_floors_at [] (map net_seen c.args.rows.now) c.args.reader.now.rest.now) c.row-item.result
    c.in_err-read_live_floors.field-0.0 c.loop-row-test.true
    c.in_err-read_live_floors.ensures c.loop-row.invariant)

pub loop-row-preserved : goal.loop-row-preserved
loop-row-preserved c =
    fill_next c.loop-row.row-index c.args.rows.now c.loop-row.rows c.loop-row.reader.rest.now
    c.read_live_floors.new.reader.rest.now
    (all_floors_at [] (map net_seen c.args.rows.now) c.args.reader.now.rest.now) c.row-item.result
    c.read_live_floors.new.row c.loop-row-test.true
    c.in_ok-read_live_floors.ensures c.loop-row.invariant

pub returns : goal.returns
returns c = fill_end c.loop-row.row-index c.args.rows.now c.loop-row.rows c.loop-row.reader.rest.now
    (all_floors_at [] (map net_seen c.args.rows.now) c.args.reader.now.rest.now) c.loop-row-test.false
    c.loop-row.invariant
