use Rattle.std.proofs.Common.{◌≡◌, map, drop}
use Rattle.zb_record.specs.RowViews.{net_key}
use Rattle.zb_keys.specs.Places.{net_place}
use Rattle.zb_keys.proofs.places.net_place.Given as goal

abbrev pub invariant-loop-i : goal.invariant-loop-i
invariant-loop-i l = net_place 0 l.key.0 (map net_key l.rows) ≡ net_place l.i l.key.0 (map net_key (drop l.i l.rows))
