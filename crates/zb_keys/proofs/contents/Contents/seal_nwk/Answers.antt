use Rattle.std.proofs.Common.{◌∙◌, ap, map}
use Rattle.zb_model.specs.Data.{Nwk}
use Rattle.zb_model.specs.State.{at_net, next_at}
use Rattle.zb_record.specs.RowViews.{net_key}
use Rattle.zb_keys.specs.Tables.{state_of}
use Rattle.zb_keys.proofs.HeardLemmas.{sound_nets, state_nets, next_is_mild, next_shows, sealed_nwk, sealed_none}
use Rattle.zb_keys.proofs.contents.Contents.seal_nwk.Goals as goal

pub returns-in-Some-clause-state : goal.returns-in-Some-clause-state
returns-in-Some-clause-state c = λ t so.
    let nets = c.set_net_next.ensures ∙ ap (λ l. at_net c.args.key.now.0 (next_at c.in-Some.next) (map net_key l))
    c.deref_mut.ensures.value in
    state_nets c.args.self.now c.set_net_next.new.rows _ (c.set_net_next.auto.rows ∙ c.deref_mut.ensures.len) nets
    ∙ sealed_nwk c.args.key.now.0 (state_of c.args.self.now) t c.in-Some.next so c.in-Some.ensures

pub returns-in-Some-clause-sound : goal.returns-in-Some-clause-sound
returns-in-Some-clause-sound c =
    let nets = c.set_net_next.ensures ∙ ap (λ l. at_net c.args.key.now.0 (next_at c.in-Some.next) (map net_key l))
    c.deref_mut.ensures.value in
    sound_nets c.args.self.now c.set_net_next.new.rows c.args.key.now.0 (next_at c.in-Some.next) (next_is_mild _)
    (next_shows _) (c.set_net_next.auto.rows ∙ c.deref_mut.ensures.len) nets c.requires.sound

pub returns-in-None-clause-state : goal.returns-in-None-clause-state
returns-in-None-clause-state c = λ t so. sealed_none Nwk c.args.key.now.0 (state_of c.args.self.now) t so
    c.in-None.ensures
