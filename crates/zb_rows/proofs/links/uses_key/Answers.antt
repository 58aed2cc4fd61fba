use Rattle.zb_model.specs.State.{LinkKey, same_key}
use Rattle.zb_record.specs.RowViews.{link_key}
use Rattle.zb_rows.proofs.Looking.{any_in}
use Rattle.zb_rows.proofs.links.uses_key.Goals as goal

pub returns : goal.returns
returns c = any_in (λ (r : LinkKey). same_key r.key c.args.key.now.0) link_key _ _ _ c.links.ensures c.is_used.ensures
