use Rattle.std.proofs.Common.{◌∙◌, ap, map}
use Rattle.zb_model.specs.State.{at_net, started_at}
use Rattle.zb_record.specs.RowViews.{net_key}
use Rattle.zb_keys.specs.Tables.{state_of}
use Rattle.zb_keys.proofs.StateLemmas.{becomes_nets, started_state}
use Rattle.zb_keys.proofs.contents.Contents.start.Goals as goal

pub returns : goal.returns
returns c = becomes_nets _ c.args.self.now c.start_net.new.rows (c.start_net.auto.rows ∙ c.deref_mut.ensures.len)
    (started_state (state_of c.args.self.now) c.args.key.now.0 c.args.value (map net_key c.start_net.new.rows)
    c.requires
    (c.start_net.ensures ∙ ap (λ l. at_net c.args.key.now.0 (started_at c.args.value) (map net_key l))
    c.deref_mut.ensures.value))
