use Rattle.std.proofs.Common.{◌∙◌, ap, map}
use Rattle.zb_model.specs.State.{at_net, reserved}
use Rattle.zb_record.specs.RowViews.{net_key}
use Rattle.zb_keys.specs.Tables.{state_of}
use Rattle.zb_record.specs.Headings.{active_bytes}
use Rattle.zb_keys.proofs.StateLemmas.{becomes_nets, reserved_state}
use Rattle.zb_keys.proofs.contents.Contents.reserve_nwk.Goals as goal

pub returns-in-Some : goal.returns-in-Some
returns-in-Some c = becomes_nets _ c.args.self.now c.reserve_net.new.rows
    (c.reserve_net.auto.rows ∙ c.deref_mut.ensures.len)
    (reserved_state (state_of c.args.self.now) c.in-Some.key.0 c.args.limit (map net_key c.reserve_net.new.rows)
    (ap active_bytes c.in-Some.is) c.requires
    (c.reserve_net.ensures ∙ ap (λ l. at_net c.in-Some.key.0 (reserved c.args.limit) (map net_key l))
    c.deref_mut.ensures.value))
