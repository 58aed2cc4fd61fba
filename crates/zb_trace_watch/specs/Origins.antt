-- Where keys come from.
use Rattle.std.specs.Prelude.{◌≡◌, ℕ, ◌||◌, List, Bool, true, Option, Some, None, ⊤}
use Rattle.std.specs.Ordering.{nat_cmp}
use Rattle.zb_trace_watch.specs.Sets.{key_cmp, keys_at, meet, number_has}
use Rattle.zb_trace_watch.specs.declared.origins.Origins.{Origins}

-- Whether the key is that of the node's install code, or a term carries it under one of the node's keys. True if
-- there is no node.
abbrev pub came : Origins → Option ℕ → List ℕ → Bool
came o None key = true
came o (Some node) key = number_has o.codes node key
    || meet (keys_at nat_cmp o.bases node) (keys_at key_cmp o.carriers (record { 0 = key }))

-- If this key of this node was traced, it came from somewhere.
abbrev pub IsTraced : Origins → Option ℕ → List ℕ → Type 0
IsTraced o None key = ⊤
IsTraced o (Some node) key = number_has o.traced node key ≡ true → came o (Some node) key ≡ true
