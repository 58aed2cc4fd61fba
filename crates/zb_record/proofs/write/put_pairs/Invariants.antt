use Rattle.std.proofs.Common.{◌≤◌, ◌+◌, ◌*◌}
use Rattle.zb_model.specs.Record.{pair_bytes}
use Rattle.zb_record.specs.declared.pair_row.Pair.{Pair}
use Rattle.zb_record.specs.RowViews.{pair_key}
use Rattle.zb_record.proofs.WritingLemmas.{Written}
use Rattle.zb_record.proofs.write.put_pairs.Given as goal

abbrev pub invariant-loop-pair : goal.invariant-loop-pair
invariant-loop-pair l = Written (λ (x : Pair). pair_bytes (pair_key x)) l.fn.into l.into l.fn.at l.end l.pair-index
    l.pairs × (l.end ≤ l.fn.at + 33 * l.pair-index)
