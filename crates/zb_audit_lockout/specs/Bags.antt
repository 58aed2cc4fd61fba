-- The items of an owner.
use Rattle.std.specs.Prelude.{List, [], Option, Some, None}
use Rattle.std.specs.BTreeMap.{get}
use Rattle.std.specs.declared.cmp.Ordering.{Ordering}
use Rattle.zb_audit_lockout.specs.declared.bags.Bag.{Bag}
use Rattle.zb_audit_lockout.specs.declared.bags.Bags.{Bags}

abbrev pub items_of : {E : Type 0} → Option (Bag E) → List E
items_of None = []
items_of (Some bag) = bag.items.items

abbrev pub items_at : {O E : Type 0} → (O → O → Ordering) → Bags O E → O → List E
items_at cmp bags owner = items_of (get cmp bags.bags owner)
