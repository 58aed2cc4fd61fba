use Rattle.std.specs.Prelude.{nat_eq}
use Rattle.zb_model.specs.State.{LinkKey, is_known}
use Rattle.zb_record.specs.RowViews.{link_key}
use Rattle.zb_rows.proofs.Looking.{any_in}
use Rattle.zb_rows.proofs.links.is_known.Goals as goal

pub returns : goal.returns
unfolding is_known
returns c = any_in (λ (r : LinkKey). nat_eq r.partner c.args.partner.0) link_key _ _ _ c.links.ensures
    c.has_row_of.ensures
