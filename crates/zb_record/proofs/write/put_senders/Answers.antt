use Rattle.std.proofs.Common.{sym, arith}
use Rattle.std.proofs.lemmas.List.Folds.{flat_map-map}
use Rattle.zb_model.specs.Record.{sender_bytes}
use Rattle.zb_record.specs.RowViews.{heard_floor}
use Rattle.zb_record.proofs.WritingLemmas.{written_none, written_more, written_all, writes_as}
use Rattle.zb_record.proofs.write.put_senders.Goals as goal

pub loop-floor-init : goal.loop-floor-init
loop-floor-init c = (written_none _ c.args.into.now c.args.at c.args.floors.now, omega arith)

pub loop-floor-preserved : goal.loop-floor-preserved
loop-floor-preserved c = (
  written_more c.args.into.now c.loop-floor.into c.put_sender-end.new.into c.args.at c.loop-floor.end
      c.put_sender-end.result c.loop-floor.floor-index c.args.floors.now _ c.loop-floor-test.true
      c.loop-floor.invariant.0 c.put_sender-end.ensures.writes,
  omega (arith, c.loop-floor.invariant.1, c.put_sender-end.ensures.short),
)

pub returns-clause-writes : goal.returns-clause-writes
returns-clause-writes c = writes_as _ _ _ _ _ _ (sym (flat_map-map sender_bytes heard_floor c.args.floors.now))
    (written_all c.args.into.now c.loop-floor.into c.args.at c.loop-floor.end c.loop-floor.floor-index
    c.args.floors.now c.loop-floor-test.false c.loop-floor.invariant.0)
