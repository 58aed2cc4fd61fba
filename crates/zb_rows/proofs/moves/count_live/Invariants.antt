use Rattle.std.proofs.Common.{◌≡◌, ◌≤◌, length, take}
use Rattle.std.specs.Prelude.{filter}
use Rattle.zb_record.specs.declared.net_row.NetRow.{NetRow}
use Rattle.zb_rows.proofs.moves.count_live.Given as goal

abbrev pub invariant-loop-row : goal.invariant-loop-row
invariant-loop-row l = (l.count ≡ length (filter (λ (r : NetRow). r.live) (take l.row-index l.rows)))
    × (l.count ≤ l.row-index)
