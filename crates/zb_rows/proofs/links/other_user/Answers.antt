use Rattle.std.proofs.Common.{◌&&◌, not}
use Rattle.std.specs.Prelude.{nat_eq}
use Rattle.zb_model.specs.State.{LinkKey, other_user, same_key}
use Rattle.zb_record.specs.RowViews.{link_key}
use Rattle.zb_rows.proofs.Looking.{found_in}
use Rattle.zb_rows.proofs.links.other_user.Goals as goal

pub returns : goal.returns
unfolding other_user
returns c = found_in (λ (r : LinkKey). same_key r.key c.args.key.now.0 && not (nat_eq r.partner c.args.partner.0))
    link_key _ _ _ c.links.ensures c.other_row.ensures
