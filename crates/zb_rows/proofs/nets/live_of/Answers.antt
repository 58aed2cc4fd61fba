use Rattle.std.proofs.Common.{◌&&◌}
use Rattle.std.specs.Prelude.{nat_eq}
use Rattle.zb_model.specs.State.{NetKey, live_of}
use Rattle.zb_record.specs.RowViews.{net_key}
use Rattle.zb_rows.proofs.Looking.{last_in}
use Rattle.zb_rows.proofs.nets.live_of.Goals as goal

pub returns : goal.returns
unfolding live_of
returns c = last_in (λ (r : NetKey). r.live && nat_eq r.sequence c.args.sequence) net_key _ _ _ c.nets.ensures
    c.live_row.ensures
