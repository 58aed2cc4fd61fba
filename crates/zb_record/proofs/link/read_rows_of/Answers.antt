use Rattle.std.proofs.Common.{[], ◌∙◌, sym, ap, ◌-◌, ◌+◌, Ok}
use Rattle.zb_node_types.specs.Changes.{model_role}
use Rattle.zb_record.specs.Rows.{link_seen, link_at}
use Rattle.zb_record.specs.Placed.{rows_at}
use Rattle.zb_record.proofs.Placing.{row_read, row_refused, rows_read}
use Rattle.zb_record.proofs.link.read_rows_of.Goals as goal

pub returns-in-Err : goal.returns-in-Err
returns-in-Err c =
    row_refused (link_at (model_role c.args.role)) c.args.count c.loop.counter c.loop.reader.rest.now c.loop.rows
    (rows_at (link_at (model_role c.args.role)) c.args.count [] c.args.reader.now.rest.now) c.in-Err.left
    c.loop-test.true c.in-Err.ensures c.loop.invariant

pub loop-preserved : goal.loop-preserved
loop-preserved c =
    ap (λ l. rows_at (link_at (model_role c.args.role)) (c.args.count - (c.loop.counter + 1)) l
    c.read_link.new.reader.rest.now) c.in_ok-push-in-Ok.ensures
    ∙ row_read (link_at (model_role c.args.role)) c.args.count c.loop.counter c.loop.reader.rest.now c.loop.rows
    (rows_at (link_at (model_role c.args.role)) c.args.count [] c.args.reader.now.rest.now)
    c.read_link.new.reader.rest.now (link_seen c.in-Ok.row) c.loop-test.true c.in-Ok.ensures c.loop.invariant

pub returns : goal.returns
returns c =
    rows_read (link_at (model_role c.args.role)) c.args.count c.loop.counter c.loop.reader.rest.now c.loop.rows
    (rows_at (link_at (model_role c.args.role)) c.args.count [] c.args.reader.now.rest.now) c.loop-test.false
    c.loop.invariant
    ∙ ap (λ l. Ok (l, c.loop.reader.rest.now)) (sym c.into_rows.ensures)
