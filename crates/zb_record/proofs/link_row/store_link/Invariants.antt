use Rattle.std.proofs.Common.{if◌then◌else◌}
use Rattle.zb_model.specs.State.{LinkKey, is_link, link_floor}
use Rattle.zb_record.specs.RowViews.{link_key}
use Rattle.zb_record.proofs.Mapping.{Mapped}
use Rattle.zb_record.proofs.link_row.store_link.Given as goal

abbrev pub invariant-loop-row : goal.invariant-loop-row
invariant-loop-row l = Mapped link_key (λ (r : LinkKey). if is_link l.partner.0 l.key.0 r then link_floor l.value r
    else r) l.row-index l.initial.rows l.rows
