use Rattle.zb_model.specs.State.{is_live_of}
use Rattle.zb_record.specs.RowViews.{link_key}
use Rattle.zb_rows.proofs.Looking.{found_in}
use Rattle.zb_rows.proofs.links.live_link.Goals as goal

pub returns : goal.returns
returns c = found_in (is_live_of c.args.partner.0) link_key _ _ _ c.links.ensures c.live_row.ensures
