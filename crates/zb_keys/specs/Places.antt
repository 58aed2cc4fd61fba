-- Rows by their place, counted from 0 in the order in which they came: which are there, and what a frame that was
-- accepted under one does to it.
use Rattle.std.specs.Prelude.{ℕ, ◌+◌, if◌then◌else◌, List, [], ◌∷◌, map, slice_get, Option, Some, None}
use Rattle.zb_counter.specs.declared.receiving.Floor.{Floor}
use Rattle.zb_model.specs.Data.{Bytes, Layer, Nwk, Aps}
use Rattle.zb_model.specs.State.{NodeState, SenderFloor, NetKey, LinkKey, same_key, of_active, next_at, after_hearing}

-- the place of the first of these network rows that has a key, where the first of them has that place
abbrev pub net_place : ℕ → Bytes → List NetKey → Option ℕ
net_place place key [] = None
net_place place key (r ∷ rs) = if same_key r.key key then Some place else net_place (place + 1) key rs

abbrev pub key_place : Option Bytes → List NetKey → Option ℕ
key_place None nets = None
key_place (Some key) nets = net_place 0 key nets

-- the place of the active row
abbrev pub active_place : NodeState → Option ℕ
active_place s = key_place s.active s.nets

-- the network row, and the link row, of a place
abbrev pub net_at : ℕ → NodeState → Option NetKey
net_at place s = slice_get s.nets place

abbrev pub link_at : ℕ → NodeState → Option LinkKey
link_at place s = slice_get s.links place

-- the key of a network row in use, and its floors
abbrev pub live_key : Option NetKey → Option Bytes
live_key None = None
live_key (Some r) = if r.live then Some r.key else None

abbrev pub live_floors : Option NetKey → List SenderFloor
live_floors None = []
live_floors (Some r) = if r.live then r.floors else []

-- the senders with a stored floor in the network row in use of a place
abbrev pub senders_at : ℕ → NodeState → List ℕ
senders_at place s = map (λ (f : SenderFloor). f.sender) (live_floors (net_at place s))

-- the floor of the partner in a link row: 0 and 0 where there is no such row
abbrev pub floor_of_link : Option LinkKey → Floor
floor_of_link None = record { kept = 0; stored = 0 }
floor_of_link (Some r) = record { kept = r.kept; stored = r.stored }

-- a sender's counter was accepted under the key of a network row in use, if there is one
abbrev pub heard_under : Option Bytes → ℕ → ℕ → NodeState → NodeState
heard_under None sender counter s = s
heard_under (Some key) sender counter s = after_hearing Nwk key sender counter s

-- a partner's counter was accepted under the key of its link row, if there is one
abbrev pub heard_from : Option LinkKey → ℕ → NodeState → NodeState
heard_from None counter s = s
heard_from (Some r) counter s = after_hearing Aps r.key r.partner counter s

-- the outgoing counter of a layer goes on from a number: at NWK that of the active row
abbrev pub gone_on : Layer → ℕ → NodeState → NodeState
gone_on Nwk next s = record s { nets = of_active (next_at next) s.active s.nets }
gone_on Aps next s = record s { aps_next = next }
