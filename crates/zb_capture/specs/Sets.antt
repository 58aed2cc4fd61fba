-- Which short addresses a set has.
use Rattle.std.specs.Prelude.{◌≡◌, List}
use Rattle.std.specs.BTreeSet.{BTreeSet, contains}
use Rattle.std.specs.List.{list_any}
use Rattle.std.specs.Ordering.{nat_cmp}
use Rattle.std.specs.declared.cmp.Ordering.{Ordering}
use Rattle.zb_base.specs.declared.address.Eui.{Eui}
use Rattle.zb_base.specs.declared.address.Short.{Short}
use Rattle.zb_capture.specs.Grammar.{has_short}

abbrev pub short_cmp : Short → Short → Ordering
short_cmp a b = nat_cmp a.0 b.0

-- The set has the short addresses of the list, and no others.
abbrev pub HaveShorts : BTreeSet Short → List (Short × Eui) → Type 0
HaveShorts shorts addrs = (short : Short) → contains short_cmp shorts short ≡ list_any (has_short short) addrs
