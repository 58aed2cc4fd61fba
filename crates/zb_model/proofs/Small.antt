-- Small states for computed cases: nodes, keys, and rows that hold them.
use Rattle.std.specs.Prelude.{ℕ, Bool, true, false, [], ◌∷◌, replicate, List, Some}
use Rattle.zb_model.specs.Data.{Bytes, Role, State, Attribute, Station}
use Rattle.zb_model.specs.State.{NetKey, LinkKey, NodeState, new_node}

abbrev pub node : Role → ℕ → ℕ → Station
node role eui short = record { name = []; eui = eui; short = short; role = role; out_block = 4; in_block = 4 }

abbrev pub k : ℕ → Bytes
k n = replicate 16 n

-- a network row that continues from a counter, live or dropped
abbrev pub net_at : ℕ → Bool → ℕ → NetKey
net_at n live next =
    record { key = k n; sequence = n; live = live; started = true; limit = next; next = next; floors = [] }

abbrev pub link_of : ℕ → ℕ → Attribute → Bool → LinkKey
link_of partner n attribute live =
    record {
      partner = partner;
      key = k n;
      attribute = attribute;
      live = live;
      code = true;
      told = false;
      kept = 0;
      stored = 0;
    }

-- a node without rows, and one with the network key 1 active
abbrev pub bare : Role → State → NodeState
bare role state = record (new_node role) { state = state }

abbrev pub keyed_node : Role → State → List LinkKey → NodeState
keyed_node role state links =
    record (bare role state) { nets = net_at 1 true 7 ∷ []; active = Some (k 1); links = links }
