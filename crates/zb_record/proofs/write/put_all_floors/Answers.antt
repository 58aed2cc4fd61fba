use Rattle.std.proofs.Common.{◌+◌, length, take, arith, ap, sym, ◌∙◌, if◌then◌else◌}
use Rattle.std.specs.Prelude.{filter}
use Rattle.std.proofs.lemmas.List.Filters.{length-filter_more}
use Rattle.zb_record.specs.declared.net_row.NetRow.{NetRow}
use Rattle.zb_record.specs.RowViews.{net_key}
use Rattle.zb_record.proofs.WritingLemmas.{written_none, written_item, written_all, filter_part, bound_more}
use Rattle.zb_record.proofs.write.put_all_floors.Goals as goal

pub loop-row-init : goal.loop-row-init
loop-row-init c = (written_none _ c.args.into.now c.args.at c.args.rows.now, omega arith)

pub put_live_floors-end-requires : goal.put_live_floors-end-requires
put_live_floors-end-requires c =
    omega (
      arith,
      c.loop-row.invariant.1,
      filter_part (λ (x : NetRow). (net_key x).live) c.loop-row.row-index
          c.args.rows.now,
      c.requires.few,
      c.requires.room,
    )

pub loop-row-preserved : goal.loop-row-preserved
loop-row-preserved c = (
  written_item c.args.into.now c.loop-row.into c.put_live_floors-end.new.into c.args.at c.loop-row.end
      c.put_live_floors-end.result c.loop-row.row-index c.args.rows.now c.row-item.result c.loop-row-test.true
      c.row-item.is c.loop-row.invariant.0 c.put_live_floors-end.ensures.writes,
  bound_more _ 769 c.args.at c.loop-row.end c.put_live_floors-end.result _ _ c.put_live_floors-end.ensures.short
      (length-filter_more (λ (x : NetRow). (net_key x).live) c.args.rows.now c.loop-row.row-index c.row-item.result
      c.loop-row-test.true ∙ ap
      (λ (y : NetRow). length (filter (λ (x : NetRow). (net_key x).live) (take c.loop-row.row-index c.args.rows.now))
      + (if (net_key y).live then 1 else 0)) (sym c.row-item.is)) c.loop-row.invariant.1,
)

pub returns-clause-writes : goal.returns-clause-writes
returns-clause-writes c = written_all c.args.into.now c.loop-row.into c.args.at c.loop-row.end c.loop-row.row-index
    c.args.rows.now c.loop-row-test.false c.loop-row.invariant.0

pub returns-clause-short : goal.returns-clause-short
returns-clause-short c =
    omega (
      arith,
      c.loop-row.invariant.1,
      filter_part (λ (x : NetRow). (net_key x).live) c.loop-row.row-index
          c.args.rows.now,
      c.requires.few,
    )
