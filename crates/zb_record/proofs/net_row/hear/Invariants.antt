use Rattle.std.proofs.Common.{if◌then◌else◌}
use Rattle.std.specs.Prelude.{nat_eq}
use Rattle.zb_model.specs.State.{SenderFloor}
use Rattle.zb_record.specs.RowViews.{heard_floor}
use Rattle.zb_record.proofs.Mapping.{Mapped}
use Rattle.zb_record.proofs.net_row.hear.Given as goal

abbrev pub invariant-loop-floor : goal.invariant-loop-floor
invariant-loop-floor l =
    Mapped heard_floor (λ (f : SenderFloor). if nat_eq f.sender l.sender.0 then record f { kept = l.kept }
    else f) l.floor-index l.initial.floors l.floors
