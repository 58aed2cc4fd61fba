use Rattle.std.proofs.Common.{[], ◌∙◌, sym, ap, map, ◌-◌, ◌+◌}
use Rattle.zb_record.specs.Rows.{pair_seen, pair_at}
use Rattle.zb_record.specs.Placed.{rows_at}
use Rattle.zb_record.proofs.Placing.{go_on, stop, all_read}
use Rattle.zb_record.proofs.pair.read_rows.Goals as goal

pub returns-in-Err : goal.returns-in-Err
returns-in-Err c =
    stop (pair_at) pair_seen c.args.count c.loop.counter c.loop.reader.rest.now c.loop.rows.items
    (rows_at (pair_at) c.args.count [] c.args.reader.now.rest.now) c.in-Err.left c.loop-test.true
    (ap (λ l. pair_at (map pair_seen l) c.loop.reader.rest.now) (sym c.as_slice.ensures.value) ∙ c.in-Err.ensures)
    c.loop.invariant

pub loop-preserved : goal.loop-preserved
loop-preserved c =
    ap (λ l. rows_at (pair_at) (c.args.count - (c.loop.counter + 1)) (map pair_seen l)
    c.read_pair.new.reader.rest.now) c.in_ok-push-in-Ok.ensures.items
    ∙ go_on (pair_at) pair_seen c.args.count c.loop.counter c.loop.reader.rest.now c.loop.rows.items
    (rows_at (pair_at) c.args.count [] c.args.reader.now.rest.now) c.read_pair.new.reader.rest.now c.in-Ok.row
    c.loop-test.true
    (ap (λ l. pair_at (map pair_seen l) c.loop.reader.rest.now) (sym c.as_slice.ensures.value) ∙ c.in-Ok.ensures)
    c.loop.invariant

pub returns : goal.returns
returns c =
    all_read (pair_at) pair_seen c.args.count c.loop.counter c.loop.reader.rest.now c.loop.rows.items
    (rows_at (pair_at) c.args.count [] c.args.reader.now.rest.now) c.loop-test.false c.loop.invariant
