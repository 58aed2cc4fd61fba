use Rattle.std.proofs.Common.{◌≡◌, ◌-◌, [], map}
use Rattle.zb_record.specs.Rows.{pair_seen, pair_at}
use Rattle.zb_record.specs.Placed.{rows_at}
use Rattle.zb_record.proofs.pair.read_rows.Given as goal

abbrev pub invariant-loop : goal.invariant-loop
invariant-loop l = rows_at (pair_at) (l.count - l.counter) (map pair_seen l.rows.items) l.reader.rest.now
    ≡ rows_at (pair_at) l.count [] l.initial.reader.rest.now
