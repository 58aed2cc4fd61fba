use Rattle.std.proofs.Common.{ap, not}
use Rattle.zb_node_types.specs.Changes.{model_attribute}
use Rattle.zb_record.specs.RowViews.{link_key}
use Rattle.zb_rows.specs.Asking.{is_row_as}
use Rattle.zb_rows.proofs.Looking.{any_in}
use Rattle.zb_rows.proofs.links.has_row_as.Goals as goal

pub returns : goal.returns
returns c =
    ap not (any_in (is_row_as c.args.partner.0 c.args.key.now.0 (model_attribute c.args.attribute)) link_key _ _ _
    c.links.ensures c.has_that_row.ensures)
