-- The record of a node, read from its bytes: versions 1, 2 and 3. Each field is whole and keeps the rules for records
-- together with the fields before it; if a rule over several fields is broken, the last of them is at fault.
use Rattle.std.specs.Prelude.{◌≡◌, ℕ, zero, suc, Bool, not, ◌||◌, ◌==◌, if◌then◌else◌, List, [], ◌∷◌, length, map, Option, Some, None, Result, Ok, Err, nat_le, nat_lt}
use Rattle.std.specs.Int.{w16, w32}
use Rattle.zb_base.specs.declared.fault.OrMemory.{OrMemory}
use Rattle.zb_base.specs.declared.fault.OrMemory.TheVariants.{Fault, NoMemory}
use Rattle.zb_base.specs.declared.node.Role.{Role}
use Rattle.zb_node_types.specs.declared.fault.KeyError.{KeyError}
use Rattle.zb_node_types.specs.declared.fault.KeyError.TheVariants.{KeyOld, KeysFull, RowsFull, KeyInUse, NoRow, WrongHash, BadRecord}
use Rattle.zb_base.specs.declared.state.State.{State}
use Rattle.zb_base.specs.declared.state.Rollover.{Rollover}
use Rattle.zb_node_types.specs.Changes.{model_role, model_state, is_sending}
use Rattle.zb_cursor.specs.Reading.{number_at}
use Rattle.zb_model.specs.Data.{Bytes}
use Rattle.zb_model.specs.State.{NodeState, NetKey, LinkKey, PairKey, is_centre}
use Rattle.zb_model.specs.Fits.{most_nets, is_fresh}
use Rattle.zb_record.specs.declared.record.Node.{Node}
use Rattle.zb_record.specs.declared.record.Head.{Head}
use Rattle.zb_record.specs.declared.record.Record as program
use Rattle.zb_record.specs.Fields.{version_at, role_at, state_at, rollover_at}
use Rattle.zb_record.specs.Redoing.{place_of}
use Rattle.zb_record.specs.Placed.{Placed, ◌>>=◌, give, field, whole, rows_at}
use Rattle.zb_record.specs.Rows.{net_seen, link_seen, pair_seen, net_at, all_floors_at, links_at, pairs_at}
use Rattle.zb_model.specs.Record.{no_place}

-- the centre stays in the first state, and only the centre sends a new network key
abbrev pub may_enter : Role → State → Bool
may_enter role state = not (is_centre (model_role role)) || is_fresh (model_state state)

abbrev pub may_roll : Role → Rollover → Bool
may_roll role rolling = not (is_sending rolling) || is_centre (model_role role)

unfoldable pub node_at : Placed Node
node_at = do
  version ← whole version_at
  role ← whole role_at
  state ← field state_at (may_enter role)
  give (record { version = version; role = role; state = state })

-- there are at most 256 network keys, and the place of the active one is among them, or is 65,535 for none
abbrev pub has_net_room : ℕ → Bool
has_net_room n = nat_le n most_nets

abbrev pub is_place : ℕ → ℕ → Bool
is_place nets place = place == no_place || nat_lt place nets

unfoldable pub head_at : Node → Placed Head
head_at node = do
  declared ← whole (number_at w32)
  aps_limit ← whole (number_at w32)
  rolling ← field rollover_at (may_roll node.role)
  nets ← field (number_at w16) has_net_room
  active ← field (number_at w16) (is_place nets)
  give (record {
    node = node;
    declared = declared;
    aps_limit = aps_limit;
    rolling = rolling;
    nets = nets;
    active = active;
  })

unfoldable pub nets_at : Head → Placed (List NetKey)
nets_at h = do
  rows ← rows_at (net_at h.node.version h.declared h.active) h.nets []
  all_floors_at [] rows

-- the key of the row at a place, if there is one
abbrev pub key_of : ℕ → List NetKey → Option Bytes
key_of place [] = None
key_of zero (r ∷ rs) = Some r.key
key_of (suc place) (r ∷ rs) = key_of place rs

-- the state that a record represents, after a boot
abbrev pub state_from : Head → List NetKey → List LinkKey → List PairKey → NodeState
state_from h nets links pairs = record {
  role = model_role h.node.role;
  state = model_state h.node.state;
  declared = h.declared;
  aps_limit = h.aps_limit;
  aps_next = h.aps_limit;
  sending = is_sending h.rolling;
  nets = nets;
  active = key_of h.active nets;
  links = links;
  pairs = pairs;
}

unfoldable pub record_at : Placed NodeState
record_at = do
  node ← node_at
  h ← head_at node
  nets ← nets_at h
  links ← links_at (model_role node.role)
  pairs ← pairs_at node.version (model_role node.role)
  give (state_from h nets links pairs)

-- all of the bytes
abbrev pub ended : Result (NodeState × List ℕ) ℕ → Result NodeState ℕ
ended (Ok x) = if length x.1 == 0 then Ok x.0 else Err (length x.1)
ended (Err left) = Err left

-- the state that the bytes are a record of, or the number of bytes from the first field at fault to the end
unfoldable pub record_read : List ℕ → Result NodeState ℕ
record_read bytes = ended (record_at bytes)

-- the program's record as the model's state
abbrev pub record_seen : program.Record → NodeState
record_seen r = state_from r.head (map net_seen r.nets.items) (map link_seen r.links.items)
    (map pair_seen r.pairs.items)

-- the result of a call that reads a record
abbrev pub IsRecord : {A : Type 0} → (A → NodeState) → Result A (OrMemory ℕ) → Result NodeState ℕ → Type 0
IsRecord view (Ok x) read = read ≡ Ok (view x)
IsRecord view (Err (Fault left)) read = read ≡ Err left
IsRecord view (Err NoMemory) read = Unit {0}

-- the result of a call that makes tables from a record of `total` bytes: the place of the fault, or out of memory
abbrev pub BadPlace : OrMemory KeyError → ℕ → Result NodeState ℕ → Type 0
BadPlace (Fault (KeyOld place)) total read = ⊥
BadPlace (Fault KeysFull) total read = ⊥
BadPlace (Fault RowsFull) total read = ⊥
BadPlace (Fault (KeyInUse partner)) total read = ⊥
BadPlace (Fault NoRow) total read = ⊥
BadPlace (Fault WrongHash) total read = ⊥
BadPlace (Fault (BadRecord place)) total read = (left : ℕ) × (read ≡ Err left) × (place ≡ place_of total left)
BadPlace NoMemory total read = Unit {0}
