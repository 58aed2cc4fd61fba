use Rattle.std.proofs.Common.{◌≡◌, ◌++◌, drop, map}
use Rattle.std.specs.List.{list_all}
use Rattle.serde_json.specs.View.{view}
use Rattle.zb_record.specs.RowViews.{heard_floor}
use Rattle.zb_backup.specs.Format.{floor_object}
use Rattle.zb_backup.specs.Reading.{floor_fits}
use Rattle.zb_backup.proofs.write.floors_value.Given as goal

abbrev pub invariant-loop-floor : goal.invariant-loop-floor
invariant-loop-floor l = record {
  values : map view l.list.items ++ map floor_object (map heard_floor (drop l.floor-index l.floors))
      ≡ map floor_object (map heard_floor l.floors);
  fits : list_all floor_fits (map heard_floor (drop l.floor-index l.floors))
      ≡ list_all floor_fits (map heard_floor l.floors);
}
