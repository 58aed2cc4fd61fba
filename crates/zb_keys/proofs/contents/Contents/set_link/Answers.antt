use Rattle.std.proofs.Common.{rules, ◌≡◌, ◌∙◌, sym, ap, map, refl, length, ◌<◌, subst, ◌&&◌}
use Rattle.std.specs.Prelude.{vec_len, vec_capacity}
use Rattle.std.specs.List.{list_any}
use Rattle.zb_node_types.specs.Changes.{model_attribute}
use Rattle.zb_model.specs.State.{at_link, applied, is_link, is_live_of, revived}
use Rattle.zb_record.specs.declared.link_row.LinkRow.{LinkRow}
use Rattle.zb_record.specs.RowViews.{link_key}
use Rattle.zb_keys.specs.Tables.{state_of}
use Rattle.zb_keys.proofs.StateLemmas.{linked_state, linked_same, linked_new, linked_room, told_of, becomes_links}
use Rattle.zb_keys.proofs.contents.Contents.set_link.Goals as goal

pub add-requires : goal.add-requires
unfolding applied
add-requires c =
    let told =
    c.has_told-told.ensures ∙ ap (list_any (λ (r : LinkRow). is_live_of c.args.partner.0 (link_key r) && r.told))
    c.as_slice.ensures.value ∙ told_of c.args.self.now c.args.partner.0 in
    let answer : c.has_row.result ≡ list_any (λ (r : LinkRow). is_link c.args.partner.0 c.args.key.0 (link_key r))
    c.args.self.now.links.items =
    c.has_row.ensures ∙ ap (list_any (λ (r : LinkRow). is_link c.args.partner.0 c.args.key.0 (link_key r)))
    c.as_slice-2.ensures.value in
    let long : length c.args.self.now.links.items ≡ vec_len c.args.self.now.links =
    sym (ap (length {A = LinkRow}) c.as_slice.ensures.value) ∙ c.as_slice.ensures.len in
    subst (λ n. n < vec_capacity c.args.self.now.links) long
    (linked_room c.args.partner.0 c.args.key.0 _ _ c.args.self.now.links.items _ (sym answer ∙ c.if-has_row.false)
    c.requires.fits)

pub returns-then-has_row : goal.returns-then-has_row
returns-then-has_row c =
    let told =
    c.has_told-told.ensures ∙ ap (list_any (λ (r : LinkRow). is_live_of c.args.partner.0 (link_key r) && r.told))
    c.as_slice.ensures.value ∙ told_of c.args.self.now c.args.partner.0 in
    let answer : c.has_row.result ≡ list_any (λ (r : LinkRow). is_link c.args.partner.0 c.args.key.0 (link_key r))
    c.args.self.now.links.items =
    c.has_row.ensures ∙ ap (list_any (λ (r : LinkRow). is_link c.args.partner.0 c.args.key.0 (link_key r)))
    c.as_slice-2.ensures.value in
    becomes_links _ c.args.self.now c.revive_link.new.rows (c.revive_link.auto.rows ∙ c.deref_mut.ensures.len)
    (linked_state (state_of c.args.self.now) c.args.partner.0 c.args.key.0 _ c.has_told-told.result _
    c.requires.forgets told
    (c.revive_link.ensures ∙ ap
    (λ l. at_link c.args.partner.0 c.args.key.0
    (revived (model_attribute c.args.attribute) c.has_told-told.result) (map link_key l)) c.deref_mut.ensures.value
    ∙ linked_same c.args.partner.0 c.args.key.0 _ _ c.args.self.now.links.items (sym answer ∙ c.if-has_row.true)))

pub returns-else-has_row : goal.returns-else-has_row
returns-else-has_row c =
    let told =
    c.has_told-told.ensures ∙ ap (list_any (λ (r : LinkRow). is_live_of c.args.partner.0 (link_key r) && r.told))
    c.as_slice.ensures.value ∙ told_of c.args.self.now c.args.partner.0 in
    let answer : c.has_row.result ≡ list_any (λ (r : LinkRow). is_link c.args.partner.0 c.args.key.0 (link_key r))
    c.args.self.now.links.items =
    c.has_row.ensures ∙ ap (list_any (λ (r : LinkRow). is_link c.args.partner.0 c.args.key.0 (link_key r)))
    c.as_slice-2.ensures.value in
    record {
      state = linked_state (state_of c.args.self.now) c.args.partner.0 c.args.key.0 _ c.has_told-told.result _
          c.requires.forgets told
          (ap (map link_key) c.add.ensures.items ∙ linked_new c.args.partner.0 c.args.key.0 _ _
          c.args.self.now.links.items c.given-row.result (sym answer ∙ c.if-has_row.false) c.given-row.ensures);
      role = refl;
      nets_room = search rules;
      links_room = c.add.ensures.room;
      pairs_room = search rules;
    }
