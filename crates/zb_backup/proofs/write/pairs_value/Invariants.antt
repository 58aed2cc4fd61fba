use Rattle.std.proofs.Common.{◌≡◌, ◌++◌, drop, map}
use Rattle.std.specs.List.{list_all}
use Rattle.serde_json.specs.View.{view}
use Rattle.zb_record.specs.RowViews.{pair_key}
use Rattle.zb_backup.specs.Format.{pair_object}
use Rattle.zb_backup.specs.Reading.{pair_fits}
use Rattle.zb_backup.proofs.write.pairs_value.Given as goal

abbrev pub invariant-loop-row : goal.invariant-loop-row
invariant-loop-row l = record {
  values : map view l.list.items ++ map pair_object (map pair_key (drop l.row-index l.rows))
      ≡ map pair_object (map pair_key l.rows);
  fits : list_all pair_fits (map pair_key (drop l.row-index l.rows)) ≡ list_all pair_fits (map pair_key l.rows);
}
