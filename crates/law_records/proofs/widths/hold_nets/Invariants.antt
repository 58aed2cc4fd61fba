use Rattle.std.proofs.Common.{◌≡◌, drop, map}
use Rattle.std.specs.List.{list_all}
use Rattle.zb_record.specs.Ranges.{net_fits}
use Rattle.zb_record.specs.RowViews.{net_key}
use Rattle.law_records.proofs.widths.hold_nets.Given as goal

abbrev pub invariant-loop-row : goal.invariant-loop-row
invariant-loop-row l = list_all net_fits (map net_key (drop l.row-index l.rows))
    ≡ list_all net_fits (map net_key l.rows)
