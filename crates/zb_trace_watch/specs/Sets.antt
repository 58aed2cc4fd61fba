-- What the sets of a watch hold, as tests.
use Rattle.std.specs.Prelude.{ℕ, List, [], Bool, false, bytes_eq, nat_eq, Option, Some, None}
use Rattle.std.specs.List.{list_any}
use Rattle.std.specs.BTreeMap.{get}
use Rattle.std.specs.Cmp.Lexicographic.{slice_cmp}
use Rattle.std.specs.Ordering.{nat_cmp}
use Rattle.std.specs.declared.cmp.Ordering.{Ordering}
use Rattle.zb_base.specs.declared.address.Eui.{Eui}
use Rattle.zb_base.specs.declared.key.Key.{Key}
use Rattle.zb_trace_watch.specs.declared.holdings.Holdings.{Holdings}
use Rattle.zb_trace_watch.specs.declared.keys.Keys.{Keys}

-- Whether a list has the key of these bytes.
abbrev pub is_among : List Key → List ℕ → Bool
is_among keys key = list_any (λ (other : Key). bytes_eq key other.0) keys

-- Whether the set has the key of these bytes.
abbrev pub has : Keys → List ℕ → Bool
has set key = is_among set.keys.keys key

-- Whether two lists have a key in common.
abbrev pub meet : List Key → List Key → Bool
meet keys others = list_any (λ (key : Key). is_among others key.0) keys

abbrev pub keys_of : Option Keys → List Key
keys_of None = []
keys_of (Some set) = set.keys.keys

-- The keys of an owner.
abbrev pub keys_at : {O : Type 0} → (O → O → Ordering) → Holdings O → O → List Key
keys_at cmp holdings owner = keys_of (get cmp holdings.sets owner)

-- Whether the owner has the key.
abbrev pub held : {O : Type 0} → (O → O → Ordering) → Holdings O → O → List ℕ → Bool
held cmp holdings owner key = is_among (keys_at cmp holdings owner) key

-- Owners that are addresses, and owners that are keys.
abbrev pub eui_cmp : Eui → Eui → Ordering
eui_cmp a b = nat_cmp a.0 b.0

abbrev pub key_cmp : Key → Key → Ordering
key_cmp a b = slice_cmp nat_cmp a.0 b.0

abbrev pub node_has : Holdings Eui → ℕ → List ℕ → Bool
node_has holdings node key = held eui_cmp holdings (record { 0 = node }) key

-- Owners that are numbers of nodes.
abbrev pub number_has : Holdings ℕ → ℕ → List ℕ → Bool
number_has holdings number key = held nat_cmp holdings number key

-- Whether a term carries the key under the base key.
abbrev pub is_carried : Holdings Key → List ℕ → List ℕ → Bool
is_carried carried base key = held key_cmp carried (record { 0 = base }) key

-- Whether there is a number, and it is this one.
abbrev pub is_number : Option ℕ → ℕ → Bool
is_number None number = false
is_number (Some other) number = nat_eq number other

-- Whether there is a node, and it is this one; and the same for a key.
abbrev pub is_node : Option Eui → ℕ → Bool
is_node None node = false
is_node (Some eui) node = nat_eq node eui.0

abbrev pub is_key : Option Key → List ℕ → Bool
is_key None key = false
is_key (Some other) key = bytes_eq key other.0
