use Rattle.std.proofs.Common.{◌≡◌, drop, map}
use Rattle.std.specs.List.{list_all}
use Rattle.zb_record.specs.Ranges.{floor_fits}
use Rattle.zb_record.specs.RowViews.{heard_floor}
use Rattle.law_records.proofs.widths.hold_floors.Given as goal

abbrev pub invariant-loop-floor : goal.invariant-loop-floor
invariant-loop-floor l = list_all floor_fits (map heard_floor (drop l.floor-index l.floors))
    ≡ list_all floor_fits (map heard_floor l.floors)
