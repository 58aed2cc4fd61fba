use Rattle.std.proofs.Common.{◌∙◌, ap}
use Rattle.zb_model.specs.State.{last_where}
use Rattle.zb_record.specs.declared.net_row.NetRow.{NetRow}
use Rattle.zb_record.specs.RowViews.{net_key}
use Rattle.zb_keys.proofs.ReadLemmas.{newest_is}
use Rattle.zb_keys.proofs.contents.Contents.newest.Goals as goal

pub returns : goal.returns
returns c =
    newest_is c.args.self.now _
    (c.newest_live.ensures ∙ ap (last_where (λ (r : NetRow). (net_key r).live)) c.as_slice.ensures.value)
