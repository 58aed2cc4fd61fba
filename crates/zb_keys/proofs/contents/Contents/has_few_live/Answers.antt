use Rattle.std.proofs.Common.{◌∙◌, sym, ap, length}
use Rattle.std.specs.Prelude.{filter, nat_lt}
use Rattle.zb_record.specs.declared.net_row.NetRow.{NetRow}
use Rattle.zb_record.specs.RowViews.{net_key}
use Rattle.zb_keys.proofs.FittingLemmas.{live_count}
use Rattle.zb_keys.proofs.contents.Contents.has_few_live.Goals as goal

pub returns : goal.returns
returns c =
    ap (λ n. nat_lt n 2)
    (c.count_live.ensures ∙ ap (λ l. length (filter (λ (r : NetRow). (net_key r).live) l)) c.as_slice.ensures.value ∙
    sym (live_count c.args.self.now.nets.items))
