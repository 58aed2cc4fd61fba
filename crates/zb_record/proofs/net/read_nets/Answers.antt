use Rattle.std.proofs.Common.{[], ◌∙◌, sym, ap, map, ◌-◌, ◌+◌}
use Rattle.zb_record.specs.Rows.{net_seen, net_at}
use Rattle.zb_record.specs.Placed.{rows_at}
use Rattle.zb_record.proofs.Placing.{go_on, stop, all_read}
use Rattle.zb_record.proofs.net.read_nets.Goals as goal

pub returns-in-Err : goal.returns-in-Err
returns-in-Err c =
    stop (net_at c.args.version c.args.declared c.args.active) net_seen c.args.count c.loop.counter
    c.loop.reader.rest.now c.loop.rows.items
    (rows_at (net_at c.args.version c.args.declared c.args.active) c.args.count [] c.args.reader.now.rest.now)
    c.in-Err.left c.loop-test.true
    (ap (λ l. net_at c.args.version c.args.declared c.args.active (map net_seen l) c.loop.reader.rest.now)
    (sym c.as_slice.ensures.value) ∙ c.in-Err.ensures) c.loop.invariant

pub loop-preserved : goal.loop-preserved
loop-preserved c =
    ap (λ l. rows_at (net_at c.args.version c.args.declared c.args.active) (c.args.count - (c.loop.counter + 1))
    (map net_seen l) c.read_net.new.reader.rest.now) c.in_ok-push-in-Ok.ensures.items
    ∙ go_on (net_at c.args.version c.args.declared c.args.active) net_seen c.args.count c.loop.counter
    c.loop.reader.rest.now c.loop.rows.items
    (rows_at (net_at c.args.version c.args.declared c.args.active) c.args.count [] c.args.reader.now.rest.now)
    c.read_net.new.reader.rest.now c.in-Ok.row c.loop-test.true
    (ap (λ l. net_at c.args.version c.args.declared c.args.active (map net_seen l) c.loop.reader.rest.now)
    (sym c.as_slice.ensures.value) ∙ c.in-Ok.ensures) c.loop.invariant

pub returns : goal.returns
returns c =
    all_read (net_at c.args.version c.args.declared c.args.active) net_seen c.args.count c.loop.counter
    c.loop.reader.rest.now c.loop.rows.items
    (rows_at (net_at c.args.version c.args.declared c.args.active) c.args.count [] c.args.reader.now.rest.now)
    c.loop-test.false c.loop.invariant
