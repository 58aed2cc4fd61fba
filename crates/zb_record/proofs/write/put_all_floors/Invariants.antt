use Rattle.std.proofs.Common.{◌≤◌, ◌+◌, ◌*◌, length, take, if◌then◌else◌, []}
use Rattle.std.specs.Prelude.{filter}
use Rattle.zb_model.specs.Record.{floors_bytes}
use Rattle.zb_record.specs.declared.net_row.NetRow.{NetRow}
use Rattle.zb_record.specs.RowViews.{net_key}
use Rattle.zb_record.proofs.WritingLemmas.{Written}
use Rattle.zb_record.proofs.write.put_all_floors.Given as goal

abbrev pub invariant-loop-row : goal.invariant-loop-row
invariant-loop-row l = Written (λ (x : NetRow). if (net_key x).live then floors_bytes (net_key x) else []) l.fn.into
    l.into l.fn.at l.end l.row-index l.rows
    × (l.end ≤ l.fn.at + 769 * length (filter (λ (x : NetRow). (net_key x).live) (take l.row-index l.rows)))
