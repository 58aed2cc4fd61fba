use Rattle.std.proofs.Common.{if◌then◌else◌}
use Rattle.zb_model.specs.State.{LinkKey, is_link, revived}
use Rattle.zb_node_types.specs.Changes.{model_attribute}
use Rattle.zb_record.specs.RowViews.{link_key}
use Rattle.zb_record.proofs.Mapping.{Mapped}
use Rattle.zb_record.proofs.link_row.revive_link.Given as goal

abbrev pub invariant-loop-row : goal.invariant-loop-row
invariant-loop-row l =
    Mapped link_key (λ (r : LinkKey). if is_link l.partner.0 l.key.0 r
    then revived (model_attribute l.attribute) l.told r else r) l.row-index l.initial.rows l.rows
