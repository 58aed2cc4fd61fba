use Rattle.std.proofs.Common.{◌≡◌, ◌-◌, [], map}
use Rattle.zb_record.specs.Rows.{net_seen, net_at}
use Rattle.zb_record.specs.Placed.{rows_at}
use Rattle.zb_record.proofs.net.read_nets.Given as goal

abbrev pub invariant-loop : goal.invariant-loop
invariant-loop l = rows_at (net_at l.version l.declared l.active) (l.count - l.counter) (map net_seen l.rows.items)
    l.reader.rest.now ≡ rows_at (net_at l.version l.declared l.active) l.count [] l.initial.reader.rest.now
