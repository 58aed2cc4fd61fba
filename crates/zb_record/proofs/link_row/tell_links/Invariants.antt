use Rattle.std.proofs.Common.{if◌then◌else◌}
use Rattle.zb_model.specs.State.{LinkKey, is_live_of, told_as}
use Rattle.zb_record.specs.RowViews.{link_key}
use Rattle.zb_record.proofs.Mapping.{Mapped}
use Rattle.zb_record.proofs.link_row.tell_links.Given as goal

abbrev pub invariant-loop-row : goal.invariant-loop-row
invariant-loop-row l = Mapped link_key (λ (r : LinkKey). if is_live_of l.partner.0 r then told_as l.told r
    else r) l.row-index l.initial.rows l.rows
