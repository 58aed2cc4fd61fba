use Rattle.std.proofs.Common.{◌≤◌, ◌+◌, ◌*◌}
use Rattle.zb_model.specs.Record.{net_bytes}
use Rattle.zb_record.specs.declared.net_row.NetRow.{NetRow}
use Rattle.zb_record.specs.RowViews.{net_key}
use Rattle.zb_record.proofs.WritingLemmas.{Written}
use Rattle.zb_record.proofs.write.put_nets.Given as goal

abbrev pub invariant-loop-row : goal.invariant-loop-row
invariant-loop-row l = Written (λ (x : NetRow). net_bytes (net_key x)) l.fn.into l.into l.fn.at l.end l.row-index
    l.rows × (l.end ≤ l.fn.at + 22 * l.row-index)
