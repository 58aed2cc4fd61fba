use Rattle.std.proofs.Common.{sym, arith}
use Rattle.std.proofs.lemmas.List.Folds.{flat_map-map}
use Rattle.zb_model.specs.Record.{pair_bytes}
use Rattle.zb_record.specs.RowViews.{pair_key}
use Rattle.zb_record.proofs.WritingLemmas.{written_none, written_more, written_all, writes_as}
use Rattle.zb_record.proofs.write.put_pairs.Goals as goal

pub loop-pair-init : goal.loop-pair-init
loop-pair-init c = (written_none _ c.args.into.now c.args.at c.args.pairs.now, omega arith)

pub loop-pair-preserved : goal.loop-pair-preserved
loop-pair-preserved c = (
  written_more c.args.into.now c.loop-pair.into c.put_pair-end.new.into c.args.at c.loop-pair.end
      c.put_pair-end.result c.loop-pair.pair-index c.args.pairs.now _ c.loop-pair-test.true c.loop-pair.invariant.0
      c.put_pair-end.ensures.writes,
  omega (arith, c.loop-pair.invariant.1, c.put_pair-end.ensures.short),
)

pub returns-clause-writes : goal.returns-clause-writes
returns-clause-writes c = writes_as _ _ _ _ _ _ (sym (flat_map-map pair_bytes pair_key c.args.pairs.now))
    (written_all c.args.into.now c.loop-pair.into c.args.at c.loop-pair.end c.loop-pair.pair-index c.args.pairs.now
    c.loop-pair-test.false c.loop-pair.invariant.0)
