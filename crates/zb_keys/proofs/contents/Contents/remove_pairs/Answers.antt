use Rattle.std.proofs.Common.{rules, ◌∙◌, sym, ap, map, refl}
use Rattle.zb_record.specs.RowViews.{pair_key}
use Rattle.zb_keys.specs.Tables.{state_of}
use Rattle.std.proofs.Common.{not}
use Rattle.zb_model.specs.State.{PairKey, names}
use Rattle.zb_keys.proofs.ShownLemmas.{filter-map}
use Rattle.zb_keys.proofs.StateLemmas.{removed_state}
use Rattle.zb_keys.proofs.contents.Contents.remove_pairs.Goals as goal

pub returns : goal.returns
returns c = record {
  state = removed_state (state_of c.args.self.now) c.args.device.0 _ c.requires
      (ap (map pair_key) c.drop_pairs.ensures.kept ∙ sym
      (filter-map (λ (p : PairKey). not (names c.args.device.0 p)) pair_key c.args.self.now.pairs.items));
  role = refl;
  nets_room = search rules;
  links_room = search rules;
  pairs_room = search rules;
}
