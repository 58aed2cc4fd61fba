use Rattle.std.proofs.Common.{◌∙◌}
use Rattle.zb_model.specs.State.{NetKey, same_key}
use Rattle.zb_record.specs.RowViews.{net_key}
use Rattle.zb_backup.proofs.Places.{place_seen}
use Rattle.zb_backup.proofs.write.place_of.Goals as goal

pub returns : goal.returns
returns c = c.place_among.ensures ∙ place_seen (λ (r : NetKey). same_key r.key c.args.key.now.0) net_key
    c.args.rows.now
