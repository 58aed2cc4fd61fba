use Rattle.zb_model.specs.State.{is_link}
use Rattle.zb_record.specs.RowViews.{link_key}
use Rattle.zb_rows.proofs.Looking.{found_in}
use Rattle.zb_rows.proofs.links.link_of.Goals as goal

pub returns : goal.returns
returns c = found_in (is_link c.args.partner.0 c.args.key.now.0) link_key _ _ _ c.links.ensures c.row_of.ensures
