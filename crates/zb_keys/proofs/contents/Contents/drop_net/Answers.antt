use Rattle.std.proofs.Common.{◌∙◌, ap, map}
use Rattle.zb_model.specs.State.{at_net, shown_net, dropped_net}
use Rattle.zb_record.specs.RowViews.{net_key}
use Rattle.zb_keys.specs.Tables.{state_of}
use Rattle.zb_keys.proofs.StateLemmas.{becomes_nets, dropped_state}
use Rattle.zb_keys.proofs.contents.Contents.drop_net.Goals as goal

pub returns : goal.returns
returns c = becomes_nets _ c.args.self.now c.drop_net.new.rows (c.drop_net.auto.rows ∙ c.deref_mut.ensures.len)
    (dropped_state (state_of c.args.self.now) c.args.key.now.0 (map net_key c.drop_net.new.rows) c.requires
    (c.drop_net.ensures ∙ ap (λ l. at_net c.args.key.now.0 (λ r. shown_net (dropped_net r)) (map net_key l))
    c.deref_mut.ensures.value))
