use Rattle.std.proofs.Common.{◌≡◌, map, drop}
use Rattle.zb_model.specs.Record.{place_from}
use Rattle.zb_record.specs.RowViews.{net_key}
use Rattle.zb_record.proofs.write.key_number.Given as goal

abbrev pub invariant-loop-i : goal.invariant-loop-i
invariant-loop-i l = place_from 0 l.key.0 (map net_key l.rows) ≡ place_from l.i l.key.0 (map net_key (drop l.i l.rows))
