-- The values of tables fit a record where those of each row do.
use Rattle.std.proofs.Common.{◌≡◌, ◌<◌, ◌^◌, true}
use Rattle.std.proofs.lemmas.Bool.{and_from, lt-ltb}
use Rattle.std.specs.List.{list_all}
use Rattle.zb_model.specs.State.{NodeState}
use Rattle.zb_record.specs.Ranges.{link_fits, net_fits, pair_fits, fits_widths, FitsBytes}
use Rattle.zb_record.proofs.Tested.{fits_from}

-- the values of a state that are within the widths of a record
pub record AreNarrow (s : NodeState) : Type 0 where
  pub declared : s.declared < 2 ^ 32
  pub aps_limit : s.aps_limit < 2 ^ 32
  pub nets : list_all net_fits s.nets ≡ true
  pub links : list_all link_fits s.links ≡ true
  pub pairs : list_all pair_fits s.pairs ≡ true

pub narrow_fit : (s : NodeState) → AreNarrow s → FitsBytes s
unfolding fits_widths
narrow_fit s n =
    fits_from s
    (and_from _ _ (lt-ltb s.declared (2 ^ 32) n.declared) (and_from _ _ (lt-ltb s.aps_limit (2 ^ 32) n.aps_limit)
    (and_from _ _ n.nets (and_from _ _ n.links n.pairs))))
