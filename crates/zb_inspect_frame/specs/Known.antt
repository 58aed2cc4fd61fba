-- What a map of addresses has.
use Rattle.std.specs.Prelude.{ℕ, Option}
use Rattle.std.specs.BTreeMap.{BTreeMap, get}
use Rattle.std.specs.Ordering.{nat_cmp}
use Rattle.std.specs.declared.cmp.Ordering.{Ordering}
use Rattle.zb_base.specs.declared.address.Eui.{Eui}
use Rattle.zb_base.specs.declared.address.Short.{Short}

abbrev pub short_cmp : Short → Short → Ordering
short_cmp a b = nat_cmp a.0 b.0

abbrev pub known_of : BTreeMap Short Eui → ℕ → Option Eui
known_of addresses short = get short_cmp addresses (record { 0 = short })
