use Rattle.std.proofs.Common.{rules, ◌≡◌, ◌∙◌, sym, ap, map, refl, length, ◌<◌, subst}
use Rattle.std.specs.Prelude.{vec_len, vec_capacity}
use Rattle.std.specs.List.{list_any}
use Rattle.zb_model.specs.State.{applied, names_two}
use Rattle.zb_record.specs.declared.pair_row.Pair as program
use Rattle.zb_record.specs.RowViews.{pair_key}
use Rattle.zb_keys.specs.Tables.{state_of}
use Rattle.zb_keys.proofs.StateLemmas.{paired_state, paired_same, paired_new, paired_room}
use Rattle.zb_keys.proofs.contents.Contents.add_pair.Goals as goal

pub add-requires : goal.add-requires
unfolding applied
add-requires c =
    let answer : c.has_pair.result
    ≡ list_any (λ (p : program.Pair). names_two c.args.first.0 c.args.second.0 (pair_key p))
    c.args.self.now.pairs.items =
    c.has_pair.ensures ∙ ap
    (list_any (λ (p : program.Pair). names_two c.args.first.0 c.args.second.0 (pair_key p)))
    c.as_slice.ensures.value in
    let long : length c.args.self.now.pairs.items ≡ vec_len c.args.self.now.pairs =
    sym (ap (length {A = program.Pair}) c.as_slice.ensures.value) ∙ c.as_slice.ensures.len in
    subst (λ n. n < vec_capacity c.args.self.now.pairs) long
    (paired_room c.args.first.0 c.args.second.0 c.args.key.0 c.args.self.now.pairs.items _
    (sym answer ∙ c.if-not-has_pair.true) c.requires.fits)

pub returns-then-not-has_pair : goal.returns-then-not-has_pair
returns-then-not-has_pair c =
    let answer : c.has_pair.result
    ≡ list_any (λ (p : program.Pair). names_two c.args.first.0 c.args.second.0 (pair_key p))
    c.args.self.now.pairs.items =
    c.has_pair.ensures ∙ ap
    (list_any (λ (p : program.Pair). names_two c.args.first.0 c.args.second.0 (pair_key p)))
    c.as_slice.ensures.value in
    record {
      state = paired_state (state_of c.args.self.now) c.args.first.0 c.args.second.0 c.args.key.0 _ c.requires.forgets
          (ap (map pair_key) c.add.ensures.items ∙ paired_new c.args.first.0 c.args.second.0 c.args.key.0
          c.args.self.now.pairs.items _ (sym answer ∙ c.if-not-has_pair.true) refl);
      role = refl;
      nets_room = search rules;
      links_room = search rules;
      pairs_room = c.add.ensures.room;
    }

pub returns-else-not-has_pair : goal.returns-else-not-has_pair
returns-else-not-has_pair c =
    let answer : c.has_pair.result
    ≡ list_any (λ (p : program.Pair). names_two c.args.first.0 c.args.second.0 (pair_key p))
    c.args.self.now.pairs.items =
    c.has_pair.ensures ∙ ap
    (list_any (λ (p : program.Pair). names_two c.args.first.0 c.args.second.0 (pair_key p)))
    c.as_slice.ensures.value in
    record {
      state = paired_state (state_of c.args.self.now) c.args.first.0 c.args.second.0 c.args.key.0 _ c.requires.forgets
          (paired_same c.args.first.0 c.args.second.0 c.args.key.0 c.args.self.now.pairs.items
          (sym answer ∙ c.if-not-has_pair.false));
      role = refl;
      nets_room = search rules;
      links_room = search rules;
      pairs_room = search rules;
    }
