use Rattle.std.proofs.Common.{◌∙◌, ap, map}
use Rattle.zb_model.specs.State.{booted_link}
use Rattle.zb_record.specs.RowViews.{link_key}
use Rattle.zb_keys.proofs.BootLemmas.{links_sound}
use Rattle.zb_keys.proofs.HeardLemmas.{state_links}
use Rattle.zb_keys.proofs.contents.Contents.set_links_back.Goals as goal

pub returns-clause-state : goal.returns-clause-state
returns-clause-state c =
    let links = c.boot_links.ensures ∙ ap (λ l. map booted_link (map link_key l)) c.deref_mut.ensures.value in
    state_links c.args.self.now c.boot_links.new.rows _ (c.boot_links.auto.rows ∙ c.deref_mut.ensures.len) links

pub returns-clause-sound : goal.returns-clause-sound
returns-clause-sound c =
    let links = c.boot_links.ensures ∙ ap (λ l. map booted_link (map link_key l)) c.deref_mut.ensures.value in
    links_sound c.args.self.now c.boot_links.new.rows (c.boot_links.auto.rows ∙ c.deref_mut.ensures.len) links
    c.requires.sound
