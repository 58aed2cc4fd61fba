use Rattle.std.proofs.Common.{◌∙◌, ap, map}
use Rattle.zb_model.specs.State.{at_net, next_at}
use Rattle.zb_record.specs.RowViews.{net_key}
use Rattle.zb_keys.proofs.HeardLemmas.{sound_nets, next_is_mild, next_shows}
use Rattle.zb_keys.proofs.contents.Contents.go_on_nwk.Goals as goal

pub returns-in-Some-clause-sound : goal.returns-in-Some-clause-sound
returns-in-Some-clause-sound c =
    let key = c.in-Some.key.0 in
    let rows = c.set_net_next.new.rows in
    let set = c.set_net_next.ensures in
    let nets = set ∙ ap (λ l. at_net key (next_at c.args.next) (map net_key l)) c.deref_mut.ensures.value in
    let long = c.set_net_next.auto.rows ∙ c.deref_mut.ensures.len in
    sound_nets c.args.self.now rows key (next_at c.args.next) (next_is_mild _) (next_shows _) long nets
    c.requires.sound
