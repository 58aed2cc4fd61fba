use Rattle.std.proofs.Common.{◌≡◌, drop, map}
use Rattle.std.specs.List.{list_all}
use Rattle.zb_record.specs.Ranges.{pair_fits}
use Rattle.zb_record.specs.RowViews.{pair_key}
use Rattle.law_records.proofs.widths.hold_pairs.Given as goal

abbrev pub invariant-loop-pair : goal.invariant-loop-pair
invariant-loop-pair l = list_all pair_fits (map pair_key (drop l.pair-index l.pairs))
    ≡ list_all pair_fits (map pair_key l.pairs)
