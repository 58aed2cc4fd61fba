use Rattle.std.proofs.Common.{◌≡◌, ◌<◌, ◌^◌, ℕ, List, true, subst}
use Rattle.std.specs.List.{list_all}
use Rattle.zb_model.specs.State.{LinkKey, NetKey, PairKey}
use Rattle.zb_record.specs.Ranges.{link_fits, net_fits, pair_fits}
use Rattle.law_records.proofs.Values.{narrow_fit}
use Rattle.law_records.proofs.widths.tables_fit_a_record.Goals as goal

pub returns : goal.returns
returns c = narrow_fit c.args.tables.now (record {
  declared = subst (λ (n : ℕ). n < 2 ^ 32) c.declared.ensures c.hold_number.ensures;
  aps_limit = subst (λ (n : ℕ). n < 2 ^ 32) c.aps_limit.ensures c.hold_number-2.ensures;
  nets = subst (λ (l : List NetKey). list_all net_fits l ≡ true) c.nets.ensures c.hold_nets.ensures;
  links = subst (λ (l : List LinkKey). list_all link_fits l ≡ true) c.links.ensures c.hold_links.ensures;
  pairs = subst (λ (l : List PairKey). list_all pair_fits l ≡ true) c.pairs.ensures c.hold_pairs.ensures;
})
