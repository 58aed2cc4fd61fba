use Rattle.std.proofs.Common.{◌∙◌, ap, map}
use Rattle.zb_model.specs.State.{at_net}
use Rattle.zb_record.specs.RowViews.{net_key}
use Rattle.zb_record.specs.Senders.{live_floor}
use Rattle.zb_keys.specs.Tables.{state_of}
use Rattle.zb_keys.proofs.StateLemmas.{becomes_nets, stored_state}
use Rattle.zb_keys.proofs.contents.Contents.store_nwk.Goals as goal

pub returns : goal.returns
returns c = becomes_nets _ c.args.self.now c.store_net.new.rows (c.store_net.auto.rows ∙ c.deref_mut.ensures.len)
    (stored_state (state_of c.args.self.now) c.args.key.now.0 c.args.sender.0 c.args.value
    (map net_key c.store_net.new.rows) c.requires.forgets
    (c.store_net.ensures ∙ ap (λ l. at_net c.args.key.now.0 (live_floor c.args.sender.0 c.args.value) (map net_key l))
    c.deref_mut.ensures.value))
