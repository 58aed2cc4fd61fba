use Rattle.std.proofs.Common.{◌&&◌}
use Rattle.std.specs.Prelude.{nat_eq}
use Rattle.zb_model.specs.State.{LinkKey, code_row}
use Rattle.zb_record.specs.RowViews.{link_key}
use Rattle.zb_rows.proofs.Looking.{found_in}
use Rattle.zb_rows.proofs.links.code_row.Goals as goal

pub returns : goal.returns
unfolding code_row
returns c = found_in (λ (r : LinkKey). nat_eq r.partner c.args.centre.0 && r.code) link_key _ _ _ c.links.ensures
    c.row_with_code.ensures
