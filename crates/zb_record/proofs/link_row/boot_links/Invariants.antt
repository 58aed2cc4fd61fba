use Rattle.zb_model.specs.State.{booted_link}
use Rattle.zb_record.specs.RowViews.{link_key}
use Rattle.zb_record.proofs.Mapping.{Mapped}
use Rattle.zb_record.proofs.link_row.boot_links.Given as goal

abbrev pub invariant-loop-row : goal.invariant-loop-row
invariant-loop-row l = Mapped link_key booted_link l.row-index l.initial.rows l.rows
