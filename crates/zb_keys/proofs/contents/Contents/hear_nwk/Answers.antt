use Rattle.std.proofs.Common.{◌∙◌, ap, map, ◌+◌}
use Rattle.zb_model.specs.State.{at_net, net_kept, after_hearing}
use Rattle.zb_record.specs.RowViews.{net_key}
use Rattle.zb_keys.proofs.RuleLemmas.{heard_is_mild}
use Rattle.zb_keys.proofs.HeardLemmas.{sound_nets, state_nets, heard_shows}
use Rattle.zb_keys.proofs.contents.Contents.hear_nwk.Goals as goal

pub returns-clause-state : goal.returns-clause-state
unfolding after_hearing
returns-clause-state c =
    let nets =
    c.hear_net.ensures ∙ ap
    (λ l. at_net c.args.key.now.0 (net_kept c.args.sender.0 (c.args.counter + 1)) (map net_key l))
    c.deref_mut.ensures.value in
    state_nets c.args.self.now c.hear_net.new.rows _ (c.hear_net.auto.rows ∙ c.deref_mut.ensures.len) nets

pub returns-clause-sound : goal.returns-clause-sound
returns-clause-sound c =
    let nets =
    c.hear_net.ensures ∙ ap
    (λ l. at_net c.args.key.now.0 (net_kept c.args.sender.0 (c.args.counter + 1)) (map net_key l))
    c.deref_mut.ensures.value in
    sound_nets c.args.self.now c.hear_net.new.rows c.args.key.now.0 (net_kept c.args.sender.0 (c.args.counter + 1))
    (heard_is_mild _ _) (heard_shows _ _) (c.hear_net.auto.rows ∙ c.deref_mut.ensures.len) nets c.requires.sound
