use Rattle.std.proofs.Common.{◌≤◌, ◌+◌, ◌*◌}
use Rattle.zb_model.specs.Record.{link_bytes}
use Rattle.zb_record.specs.declared.link_row.LinkRow.{LinkRow}
use Rattle.zb_record.specs.RowViews.{link_key}
use Rattle.zb_record.proofs.WritingLemmas.{Written}
use Rattle.zb_record.proofs.write.put_links.Given as goal

abbrev pub invariant-loop-row : goal.invariant-loop-row
invariant-loop-row l = Written (λ (x : LinkRow). link_bytes (link_key x)) l.fn.into l.into l.fn.at l.end l.row-index
    l.rows × (l.end ≤ l.fn.at + 30 * l.row-index)
