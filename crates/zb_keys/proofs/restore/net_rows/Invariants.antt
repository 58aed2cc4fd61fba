use Rattle.std.proofs.Common.{◌≡◌, ◌≤◌, map, take}
use Rattle.std.specs.Prelude.{vec_capacity}
use Rattle.zb_record.specs.RowViews.{net_key}
use Rattle.zb_record.specs.Rows.{net_seen}
use Rattle.zb_keys.proofs.restore.net_rows.Given as goal

abbrev pub invariant-loop-source : goal.invariant-loop-source
invariant-loop-source l = (map net_key l.rows.items ≡ map net_seen (take l.source-index l.records))
    × (256 ≤ vec_capacity l.rows)
