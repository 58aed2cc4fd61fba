use Rattle.std.proofs.Common.{◌≡◌, ◌≤◌, length, map, take}
use Rattle.std.specs.Prelude.{vec_capacity, vec_len}
use Rattle.zb_node_types.specs.Changes.{model_role}
use Rattle.zb_model.specs.Fits.{most_links}
use Rattle.zb_record.specs.RowViews.{link_key}
use Rattle.zb_record.specs.Rows.{link_seen}
use Rattle.zb_keys.proofs.restore.link_rows.Given as goal

abbrev pub invariant-loop-source : goal.invariant-loop-source
invariant-loop-source l = (map link_key l.rows.items ≡ map link_seen (take l.source-index l.records))
    × (most_links (model_role l.fn.role) ≤ vec_capacity l.rows)
    × (length l.records ≤ vec_capacity l.rows)
    × (vec_len l.rows ≡ l.source-index)
