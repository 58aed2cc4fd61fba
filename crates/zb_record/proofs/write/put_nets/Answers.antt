use Rattle.std.proofs.Common.{sym, arith}
use Rattle.std.proofs.lemmas.List.Folds.{flat_map-map}
use Rattle.zb_model.specs.Record.{net_bytes}
use Rattle.zb_record.specs.RowViews.{net_key}
use Rattle.zb_record.proofs.WritingLemmas.{written_none, written_item, written_all, writes_as}
use Rattle.zb_record.proofs.write.put_nets.Goals as goal

pub loop-row-init : goal.loop-row-init
loop-row-init c = (written_none _ c.args.into.now c.args.at c.args.rows.now, omega arith)

pub loop-row-preserved : goal.loop-row-preserved
loop-row-preserved c = (
  written_item c.args.into.now c.loop-row.into c.put_net-end.new.into c.args.at c.loop-row.end c.put_net-end.result
      c.loop-row.row-index c.args.rows.now c.row-item.result c.loop-row-test.true c.row-item.is c.loop-row.invariant.0
      c.put_net-end.ensures.writes,
  omega (arith, c.loop-row.invariant.1, c.put_net-end.ensures.short),
)

pub returns-clause-writes : goal.returns-clause-writes
returns-clause-writes c = writes_as _ _ _ _ _ _ (sym (flat_map-map net_bytes net_key c.args.rows.now))
    (written_all c.args.into.now c.loop-row.into c.args.at c.loop-row.end c.loop-row.row-index c.args.rows.now
    c.loop-row-test.false c.loop-row.invariant.0)
