use Rattle.std.proofs.Common.{if◌then◌else◌}
use Rattle.zb_model.specs.State.{NetKey, same_key, net_kept}
use Rattle.zb_record.specs.RowViews.{net_key}
use Rattle.zb_record.proofs.Mapping.{Mapped}
use Rattle.zb_record.proofs.net_row.hear_net.Given as goal

abbrev pub invariant-loop-row : goal.invariant-loop-row
invariant-loop-row l = Mapped net_key (λ (r : NetKey). if same_key r.key l.key.0 then net_kept l.sender.0 l.kept r
    else r) l.row-index l.initial.rows l.rows
