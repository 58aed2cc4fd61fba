use Rattle.std.proofs.Common.{◌≤◌, ◌+◌, ◌*◌}
use Rattle.zb_model.specs.Record.{sender_bytes}
use Rattle.zb_record.specs.declared.net_row.SenderFloor.{SenderFloor}
use Rattle.zb_record.specs.RowViews.{heard_floor}
use Rattle.zb_record.proofs.WritingLemmas.{Written}
use Rattle.zb_record.proofs.write.put_senders.Given as goal

abbrev pub invariant-loop-floor : goal.invariant-loop-floor
invariant-loop-floor l = Written (λ (x : SenderFloor). sender_bytes (heard_floor x)) l.fn.into l.into l.fn.at l.end
    l.floor-index l.floors × (l.end ≤ l.fn.at + 12 * l.floor-index)
