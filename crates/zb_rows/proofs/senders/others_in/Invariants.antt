use Rattle.std.proofs.Common.{◌≡◌, ◌≤◌, length, take, not}
use Rattle.std.specs.Prelude.{filter, nat_eq}
use Rattle.zb_record.specs.declared.net_row.SenderFloor.{SenderFloor}
use Rattle.zb_rows.proofs.senders.others_in.Given as goal

abbrev pub invariant-loop-floor : goal.invariant-loop-floor
invariant-loop-floor l =
    (l.count
    ≡ length (filter (λ (f : SenderFloor). not (nat_eq f.sender.0 l.sender.0)) (take l.floor-index l.floors)))
    × (l.count ≤ l.floor-index)
