use Rattle.zb_record.specs.RowViews.{net_key}
use Rattle.zb_record.specs.Redoing.{limited}
use Rattle.zb_record.proofs.Mapping.{Mapped}
use Rattle.zb_record.proofs.net_row.limit_nets.Given as goal

abbrev pub invariant-loop-row : goal.invariant-loop-row
invariant-loop-row l = Mapped net_key (limited l.limit) l.row-index l.initial.rows l.rows
