use Rattle.std.proofs.Common.{◌≡◌, ◌-◌, [], map, length, true}
use Rattle.zb_model.specs.Fits.{senders_ascend}
use Rattle.zb_record.specs.Rows.{sender_seen, sender_at}
use Rattle.zb_record.specs.Placed.{rows_at}
use Rattle.zb_record.proofs.sender.read_senders.Given as goal

abbrev pub invariant-loop : goal.invariant-loop
invariant-loop l =
    (rows_at sender_at (l.count - l.counter) (map sender_seen l.floors.items) l.reader.rest.now
    ≡ rows_at sender_at l.count [] l.initial.reader.rest.now)
    × ((length l.floors.items ≡ l.counter) × (senders_ascend (map sender_seen l.floors.items) ≡ true))
