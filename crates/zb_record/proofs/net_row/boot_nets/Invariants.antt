use Rattle.zb_model.specs.State.{booted_net}
use Rattle.zb_record.specs.RowViews.{net_key}
use Rattle.zb_record.proofs.Mapping.{Mapped}
use Rattle.zb_record.proofs.net_row.boot_nets.Given as goal

abbrev pub invariant-loop-row : goal.invariant-loop-row
invariant-loop-row l = Mapped net_key booted_net l.row-index l.initial.rows l.rows
