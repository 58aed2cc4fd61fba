use Rattle.std.proofs.Common.{◌≡◌, ◌≤◌, map, take}
use Rattle.std.specs.Prelude.{vec_capacity}
use Rattle.zb_record.specs.RowViews.{pair_key}
use Rattle.zb_record.specs.Rows.{pair_seen}
use Rattle.zb_keys.proofs.restore.pair_rows.Given as goal

abbrev pub invariant-loop-source : goal.invariant-loop-source
invariant-loop-source l = (map pair_key l.rows.items ≡ map pair_seen (take l.source-index l.records))
    × (256 ≤ vec_capacity l.rows)
