use Rattle.zb_model.specs.State.{booted_floor}
use Rattle.zb_record.specs.RowViews.{heard_floor}
use Rattle.zb_record.proofs.Mapping.{Mapped}
use Rattle.zb_record.proofs.net_row.boot_floors.Given as goal

abbrev pub invariant-loop-floor : goal.invariant-loop-floor
invariant-loop-floor l = Mapped heard_floor booted_floor l.floor-index l.initial.floors l.floors
