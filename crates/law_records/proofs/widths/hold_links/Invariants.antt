use Rattle.std.proofs.Common.{◌≡◌, drop, map}
use Rattle.std.specs.List.{list_all}
use Rattle.zb_record.specs.Ranges.{link_fits}
use Rattle.zb_record.specs.RowViews.{link_key}
use Rattle.law_records.proofs.widths.hold_links.Given as goal

abbrev pub invariant-loop-row : goal.invariant-loop-row
invariant-loop-row l = list_all link_fits (map link_key (drop l.row-index l.rows))
    ≡ list_all link_fits (map link_key l.rows)
