use Rattle.std.proofs.Common.{[], map}
use Rattle.zb_record.specs.Rows.{net_seen, all_floors_at}
use Rattle.zb_record.proofs.Placing.{Filled}
use Rattle.zb_record.proofs.sender.read_all_floors.Given as goal

abbrev pub invariant-loop-row : goal.invariant-loop-row
invariant-loop-row l = Filled l.row-index l.initial.rows l.rows l.reader.rest.now
    (all_floors_at [] (map net_seen l.initial.rows) l.initial.reader.rest.now)
