use Rattle.std.proofs.Common.{◌≡◌, map, take, length}
use Rattle.zb_record.specs.RowViews.{heard_floor}
use Rattle.zb_record.specs.Rows.{sender_seen}
use Rattle.zb_keys.proofs.restore.senders.Given as goal

abbrev pub invariant-loop-source : goal.invariant-loop-source
invariant-loop-source l = (map heard_floor l.floors.items ≡ map sender_seen (take l.source-index l.records))
    × (length l.floors.items ≡ l.source-index)
