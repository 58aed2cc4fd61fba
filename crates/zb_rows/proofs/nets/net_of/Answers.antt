use Rattle.zb_model.specs.State.{NetKey, same_key}
use Rattle.zb_record.specs.RowViews.{net_key}
use Rattle.zb_rows.proofs.Looking.{found_in}
use Rattle.zb_rows.proofs.nets.net_of.Goals as goal

pub returns : goal.returns
returns c = found_in (λ (r : NetKey). same_key r.key c.args.key.now.0) net_key _ _ _ c.nets.ensures c.key_row.ensures
