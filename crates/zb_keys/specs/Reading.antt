-- What the readers of tables answer, asked of the state of the node.
use Rattle.std.specs.Prelude.{◌≡◌, ◌<◌, ◌+◌, ℕ, if◌then◌else◌, Option, Some, None, option_map, nat_lt}
use Rattle.zb_counter.specs.declared.receiving.Floor.{Floor}
use Rattle.zb_counter.specs.declared.sending.Outgoing.{Outgoing}
use Rattle.zb_model.specs.Data.{Bytes, Layer, Nwk, Aps, Term}
use Rattle.zb_model.specs.State.{greatest_counter, NodeState, NetKey, net_of, sender_floor, next_counter, stored_limit}

-- the floor of a sender in a row that was looked for: 0 and 0 where none was stored
abbrev pub floor_of_row : ℕ → Option NetKey → Floor
floor_of_row sender None = record { kept = 0; stored = 0 }
floor_of_row sender (Some r) = record { kept = (sender_floor sender r).kept; stored = (sender_floor sender r).stored }

-- the outgoing counter of a layer, which is reserved in blocks of that size
abbrev pub outgoing_of : Layer → ℕ → NodeState → Outgoing
outgoing_of layer block s = record { next = next_counter layer s; limit = stored_limit layer s; block = block }

-- the outgoing counter of the next term under a base key: that of its row at NWK, and at APS the node's own
abbrev pub next_under : Layer → Bytes → NodeState → Option ℕ
next_under Nwk key s = option_map (λ (r : NetKey). r.next) (net_of key s)
next_under Aps key s = Some s.aps_next

-- A term was sealed under that base key with its next counter, which isn't the greatest.
pub record IsNext (layer : Layer) (key : Bytes) (s : NodeState) (t : Term) : Type 0 where
  pub layer_is : t.layer ≡ layer
  pub base_is : t.base ≡ key
  pub counter_is : next_under layer key s ≡ Some t.counter
  pub below_last : t.counter < greatest_counter

-- the counter after the next one, unless that is the greatest
abbrev pub behind_next : Option ℕ → Option ℕ
behind_next None = None
behind_next (Some n) = if nat_lt n greatest_counter then Some (n + 1) else None
