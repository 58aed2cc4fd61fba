use Rattle.std.proofs.Common.{false}
use Rattle.zb_model.specs.State.{LinkKey, told_as}
use Rattle.zb_record.specs.RowViews.{link_key}
use Rattle.zb_record.proofs.Mapping.{Mapped}
use Rattle.zb_record.proofs.link_row.untell_links.Given as goal

abbrev pub invariant-loop-row : goal.invariant-loop-row
invariant-loop-row l = Mapped link_key (λ (r : LinkKey). told_as false r) l.row-index l.initial.rows l.rows
