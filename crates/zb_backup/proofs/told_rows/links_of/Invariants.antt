use Rattle.std.proofs.Common.{◌≡◌, [], drop, map}
use Rattle.serde_json.specs.View.{items_view}
use Rattle.zb_model.specs.Fits.{most_links}
use Rattle.zb_model.specs.Data.{Centre}
use Rattle.zb_record.specs.RowViews.{link_key}
use Rattle.zb_backup.specs.Told.{link_told, told_rows}
use Rattle.zb_backup.proofs.told_rows.links_of.Given as goal

abbrev pub invariant-loop-item : goal.invariant-loop-item
invariant-loop-item l =
    told_rows (most_links Centre) link_told (map link_key l.rows.items) (items_view (drop l.item-index l.list))
    ≡ told_rows (most_links Centre) link_told [] (items_view l.list)
