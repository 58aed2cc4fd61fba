use Rattle.std.proofs.Common.{◌≡◌, map, drop}
use Rattle.zb_model.specs.Commands.{dropped_at}
use Rattle.zb_record.specs.RowViews.{net_key}
use Rattle.zb_rows.proofs.nets.dropped_row.Given as goal

abbrev pub invariant-loop-i : goal.invariant-loop-i
invariant-loop-i l = dropped_at 0 l.key.0 (map net_key l.rows) ≡ dropped_at l.i l.key.0 (map net_key (drop l.i l.rows))
