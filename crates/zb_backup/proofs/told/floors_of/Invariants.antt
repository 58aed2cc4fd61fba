use Rattle.std.proofs.Common.{◌≡◌, [], drop, map}
use Rattle.serde_json.specs.View.{items_view}
use Rattle.zb_model.specs.Fits.{most_senders}
use Rattle.zb_record.specs.RowViews.{heard_floor}
use Rattle.zb_backup.specs.Told.{floor_told, told_rows}
use Rattle.zb_backup.proofs.told.floors_of.Given as goal

abbrev pub invariant-loop-item : goal.invariant-loop-item
invariant-loop-item l =
    told_rows most_senders floor_told (map heard_floor l.floors.items) (items_view (drop l.item-index l.list))
    ≡ told_rows most_senders floor_told [] (items_view l.list)
