use Rattle.std.proofs.Common.{◌≡◌, ◌++◌, drop, map}
use Rattle.std.specs.List.{list_all}
use Rattle.serde_json.specs.View.{view}
use Rattle.zb_record.specs.RowViews.{net_key}
use Rattle.zb_backup.specs.Format.{net_object}
use Rattle.zb_backup.specs.Reading.{net_fits}
use Rattle.zb_backup.proofs.write.nets_value.Given as goal

abbrev pub invariant-loop-row : goal.invariant-loop-row
invariant-loop-row l = record {
  values : map view l.list.items ++ map net_object (map net_key (drop l.row-index l.rows))
      ≡ map net_object (map net_key l.rows);
  fits : list_all net_fits (map net_key (drop l.row-index l.rows)) ≡ list_all net_fits (map net_key l.rows);
}
