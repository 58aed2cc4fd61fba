use Rattle.std.proofs.Common.{◌≡◌, ◌++◌, drop, map}
use Rattle.std.specs.List.{list_all}
use Rattle.serde_json.specs.View.{view}
use Rattle.zb_record.specs.RowViews.{link_key}
use Rattle.zb_backup.specs.Format.{link_object}
use Rattle.zb_backup.specs.Reading.{link_fits}
use Rattle.zb_backup.proofs.write.links_value.Given as goal

abbrev pub invariant-loop-row : goal.invariant-loop-row
invariant-loop-row l = record {
  values : map view l.list.items ++ map link_object (map link_key (drop l.row-index l.rows))
      ≡ map link_object (map link_key l.rows);
  fits : list_all link_fits (map link_key (drop l.row-index l.rows)) ≡ list_all link_fits (map link_key l.rows);
}
