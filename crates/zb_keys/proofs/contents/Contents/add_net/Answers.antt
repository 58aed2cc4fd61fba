use Rattle.std.proofs.Common.{rules, refl, map, ◌≡◌, ◌∙◌, sym, ap, length, ◌<◌, subst}
use Rattle.std.specs.Prelude.{vec_len, vec_capacity}
use Rattle.std.specs.List.{list_any}
use Rattle.zb_model.specs.State.{same_key}
use Rattle.zb_record.specs.declared.net_row.NetRow.{NetRow}
use Rattle.zb_record.specs.RowViews.{net_key}
use Rattle.zb_keys.specs.Tables.{state_of}
use Rattle.zb_keys.proofs.ShownLemmas.{installed_new, installed_same, installed_room}
use Rattle.zb_keys.proofs.StateLemmas.{installed_state}
use Rattle.zb_keys.proofs.contents.Contents.add_net.Goals as goal

pub add-requires : goal.add-requires
add-requires c =
    let answer : c.has_key.result ≡ list_any (λ (r : NetRow). same_key (net_key r).key c.args.row.key.0)
    c.args.self.now.nets.items =
    c.has_key.ensures ∙ ap (list_any (λ (r : NetRow). same_key (net_key r).key c.args.row.key.0))
    c.as_slice.ensures.value in
    let long : length c.args.self.now.nets.items ≡ vec_len c.args.self.now.nets =
    sym (ap (length {A = NetRow}) c.as_slice.ensures.value) ∙ c.as_slice.ensures.len in
    subst (λ n. n < vec_capacity c.args.self.now.nets) long
    (installed_room c.args.self.now.nets.items (net_key c.args.row) _ (sym answer ∙ c.if-not-has_key.true)
    c.requires.fits)

pub returns-then-not-has_key : goal.returns-then-not-has_key
returns-then-not-has_key c =
    let answer : c.has_key.result ≡ list_any (λ (r : NetRow). same_key (net_key r).key c.args.row.key.0)
    c.args.self.now.nets.items =
    c.has_key.ensures ∙ ap (list_any (λ (r : NetRow). same_key (net_key r).key c.args.row.key.0))
    c.as_slice.ensures.value in
    record {
      state = installed_state (state_of c.args.self.now) (net_key c.args.row) _
          (ap (map net_key) c.add.ensures.items ∙ installed_new c.args.self.now.nets.items c.args.row
          (sym answer ∙ c.if-not-has_key.true) c.requires.live c.requires.forgets);
      role = refl;
      nets_room = c.add.ensures.room;
      links_room = search rules;
      pairs_room = search rules;
    }

pub returns-else-not-has_key : goal.returns-else-not-has_key
returns-else-not-has_key c =
    let answer : c.has_key.result ≡ list_any (λ (r : NetRow). same_key (net_key r).key c.args.row.key.0)
    c.args.self.now.nets.items =
    c.has_key.ensures ∙ ap (list_any (λ (r : NetRow). same_key (net_key r).key c.args.row.key.0))
    c.as_slice.ensures.value in
    record {
      state = installed_state (state_of c.args.self.now) (net_key c.args.row) _
          (installed_same c.args.self.now.nets.items (net_key c.args.row) (sym answer ∙ c.if-not-has_key.false)
          c.requires.forgets);
      role = refl;
      nets_room = search rules;
      links_room = search rules;
      pairs_room = search rules;
    }
