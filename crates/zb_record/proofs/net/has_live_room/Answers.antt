use Rattle.std.proofs.Common.{◌∙◌, sym, ap}
use Rattle.std.specs.Prelude.{nat_lt}
use Rattle.zb_model.specs.State.{NetKey}
use Rattle.zb_record.specs.Rows.{net_seen}
use Rattle.zb_record.proofs.Lists.{count_map}
use Rattle.zb_record.proofs.net.has_live_room.Goals as goal

pub returns : goal.returns
returns c =
    ap (λ n. nat_lt n 2) (c.count_live.ensures ∙ sym (count_map (λ (r : NetKey). r.live) net_seen c.args.rows.now))
