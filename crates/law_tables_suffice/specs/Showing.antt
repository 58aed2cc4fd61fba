-- When a term's floor is shown, so that an answer doesn't depend on what tables forget.
use Rattle.std.specs.Prelude.{◌≡◌, Bool, true, List, ⊤}
use Rattle.std.specs.List.{AllByRecursion}
use Rattle.zb_model.specs.Data.{Layer, Nwk, Aps, Term}
use Rattle.zb_model.specs.State.{NetKey, NodeState, same_key}
use Rattle.zb_model.specs.Fits.{all_apart, live_net}

-- the base key of a NWK term is a live network key; for APS terms there is no condition
abbrev pub IsUnderLive : NodeState → Layer → Term → Type 0
IsUnderLive s Nwk t = live_net t.base s ≡ true
IsUnderLive s Aps t = ⊤

abbrev pub AreUnderLive : NodeState → List Term → Type 0
AreUnderLive s ts = AllByRecursion (λ (t : Term). IsUnderLive s t.layer t) ts

-- no two network rows have the same key
unfoldable pub nets_differ : NodeState → Bool
nets_differ s = all_apart (λ (a b : NetKey). same_key a.key b.key) s.nets
