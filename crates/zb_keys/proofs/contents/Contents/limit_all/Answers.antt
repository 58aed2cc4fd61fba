use Rattle.std.proofs.Common.{◌∙◌, ap, map}
use Rattle.zb_record.specs.RowViews.{net_key}
use Rattle.zb_keys.specs.Tables.{state_of}
use Rattle.zb_record.specs.Redoing.{limited}
use Rattle.zb_keys.proofs.StateLemmas.{becomes_limited, limited_state}
use Rattle.zb_keys.proofs.contents.Contents.limit_all.Goals as goal

pub returns : goal.returns
returns c = becomes_limited _ c.args.self.now c.args.limit c.limit_nets.new.rows
    (c.limit_nets.auto.rows ∙ c.deref_mut.ensures.len)
    (limited_state (state_of c.args.self.now) c.args.limit (map net_key c.limit_nets.new.rows) c.requires
    (c.limit_nets.ensures ∙ ap (λ l. map (limited c.args.limit) (map net_key l)) c.deref_mut.ensures.value))
