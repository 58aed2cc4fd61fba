use Rattle.std.proofs.Common.{◌∙◌, ap, map, ◌+◌}
use Rattle.zb_model.specs.State.{at_link, link_kept, after_hearing}
use Rattle.zb_record.specs.RowViews.{link_key}
use Rattle.zb_keys.proofs.HeardLemmas.{state_links, link_heard}
use Rattle.zb_keys.proofs.contents.Contents.hear_aps.Goals as goal

pub returns-clause-state : goal.returns-clause-state
unfolding after_hearing
returns-clause-state c =
    let links =
    c.hear_link.ensures ∙ ap
    (λ l. at_link c.args.partner.0 c.args.key.now.0 (link_kept (c.args.counter + 1)) (map link_key l))
    c.deref_mut.ensures.value in
    state_links c.args.self.now c.hear_link.new.rows _ (c.hear_link.auto.rows ∙ c.deref_mut.ensures.len) links

pub returns-clause-sound : goal.returns-clause-sound
returns-clause-sound c =
    let links =
    c.hear_link.ensures ∙ ap
    (λ l. at_link c.args.partner.0 c.args.key.now.0 (link_kept (c.args.counter + 1)) (map link_key l))
    c.deref_mut.ensures.value in
    link_heard c.args.self.now c.hear_link.new.rows c.args.partner.0 c.args.key.now.0 (c.args.counter + 1)
    (c.hear_link.auto.rows ∙ c.deref_mut.ensures.len) links c.requires.sound
