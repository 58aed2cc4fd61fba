-- The bytes that a node's disk keeps: the record of a state, version 3, and the payload of a journal entry. Numbers
-- and EUIs are least significant byte first. Layout: this project's own.
use Rattle.std.specs.Prelude.{ℕ, ◌+◌, Bool, true, false, if◌then◌else◌, List, [], ◌∷◌, ◌++◌, filter, length, Option, Some, None, flat_map}
use Rattle.std.specs.Int.{to_le_bytes, w16, w32, w64}
use Rattle.zb_model.specs.Data.{Bytes, Role, Centre, Router, Device, Layer, Nwk, Aps, State, Fresh, Knocked, Joined, Offered, Confirmed, Rejoining, Gone, Attribute, Provisional, Unverified, Verified, Move, Draw, DropNet, DropLink, Install, Active, Row, Pair, Became, Live, Removed, Roll, Told, Untold, Edit, Reserve, Floor, Start, Moved}
use Rattle.zb_model.specs.State.{SenderFloor, NetKey, LinkKey, PairKey, NodeState, same_key, live_nets}

abbrev pub two_bytes : ℕ → Bytes
two_bytes n = to_le_bytes w16 n

abbrev pub four_bytes : ℕ → Bytes
four_bytes n = to_le_bytes w32 n

abbrev pub eight_bytes : ℕ → Bytes
eight_bytes n = to_le_bytes w64 n

abbrev pub role_byte : Role → ℕ
role_byte Centre = 0
role_byte Router = 1
role_byte Device = 2

abbrev pub state_byte : State → ℕ
state_byte Fresh = 0
state_byte Knocked = 1
state_byte Joined = 2
state_byte Offered = 3
state_byte Confirmed = 4
state_byte Rejoining = 5
state_byte Gone = 6

abbrev pub attribute_byte : Attribute → ℕ
attribute_byte Provisional = 0
attribute_byte Unverified = 1
attribute_byte Verified = 2

abbrev pub layer_byte : Layer → ℕ
layer_byte Nwk = 0
layer_byte Aps = 1

-- a bit of a flags byte: its value if it is set
abbrev pub worth : ℕ → Bool → ℕ
worth n b = if b then n else 0

-- what is written as the place of the active row if there is none: FFFF
abbrev pub no_place : ℕ
no_place = 65535

-- the place of the active row
abbrev pub place_from : ℕ → Bytes → List NetKey → ℕ
place_from at key [] = no_place
place_from at key (r ∷ rs) = if same_key r.key key then at else place_from (at + 1) key rs

abbrev pub active_place : NodeState → ℕ
active_place s = place s.active
  where
    place : Option Bytes → ℕ
    place None = no_place
    place (Some key) = place_from 0 key s.nets

-- A network row: key 16, sequence 1, flags 1 (bit 0 live, bit 1 started), limit 4.
abbrev pub net_bytes : NetKey → Bytes
net_bytes r = r.key ++ r.sequence ∷ (worth 1 r.live + worth 2 r.started) ∷ four_bytes r.limit

-- The floors of a live network row: a count 1, and for each sender its EUI 8 and its floor 4.
abbrev pub sender_bytes : SenderFloor → Bytes
sender_bytes f = eight_bytes f.sender ++ four_bytes f.stored

abbrev pub floors_bytes : NetKey → Bytes
floors_bytes r = length r.floors ∷ flat_map sender_bytes r.floors

-- A link row: partner 8, key 16, attribute 1, flags 1 (bit 0 live, bit 1 from a code, bit 2 told), floor 4.
abbrev pub link_bytes : LinkKey → Bytes
link_bytes r = eight_bytes r.partner
    ++ (r.key ++ attribute_byte r.attribute ∷ (worth 1 r.live + (worth 2 r.code + worth 4 r.told))
    ∷ four_bytes r.stored)

-- A pair: first 8, second 8, key 16, live 1, which is 01.
abbrev pub pair_bytes : PairKey → Bytes
pair_bytes p = eight_bytes p.first ++ (eight_bytes p.second ++ (p.key ++ 1 ∷ []))

-- The record of a state, in this order:
-- - version 3, role, state
-- - the declared NWK start, the APS limit, the rollover
-- - the number of network rows, the place of the active one, the rows, and the floors of the live ones
-- - the number of link rows, and the rows
-- - the number of pairs, and the pairs
unfoldable pub record_of : NodeState → Bytes
record_of s =
    3 ∷ role_byte s.role ∷ state_byte s.state ∷ []
    ++ (four_bytes s.declared ++ (four_bytes s.aps_limit ++ (worth 1 s.sending ∷ []
    ++ (two_bytes (length s.nets)
    ++ (two_bytes (active_place s) ++ (flat_map net_bytes s.nets ++ (flat_map floors_bytes (live_nets s)
    ++ (two_bytes (length s.links) ++ (flat_map link_bytes s.links
    ++ (two_bytes (length s.pairs) ++ flat_map pair_bytes s.pairs))))))))))

-- The payload of a journal entry: the number of changes 1, then each change except draws, as its kind and fields.
abbrev pub move_bytes : Move → Bytes
move_bytes (Draw key) = []
move_bytes (DropNet key) = 0x03 ∷ key
move_bytes (DropLink partner key) = 0x04 ∷ eight_bytes partner ++ key
move_bytes (Install key sequence) = 0x05 ∷ key ++ sequence ∷ []
move_bytes (Active key) = 0x06 ∷ key
move_bytes (Row partner key attribute) = 0x07 ∷ eight_bytes partner ++ (key ++ attribute_byte attribute ∷ [])
move_bytes (Became state) = 0x08 ∷ state_byte state ∷ []
move_bytes (Roll sending) = 0x09 ∷ worth 1 sending ∷ []
move_bytes (Told device) = 0x0a ∷ eight_bytes device
move_bytes (Untold device) = 0x0b ∷ eight_bytes device
move_bytes (Live device) = 0x0c ∷ eight_bytes device
move_bytes (Removed device) = 0x0d ∷ eight_bytes device
move_bytes (Pair first second key) = 0x0f ∷ eight_bytes first ++ (eight_bytes second ++ key)

unfoldable pub edit_bytes : Edit → Bytes
edit_bytes (Reserve layer limit) = 0x01 ∷ layer_byte layer ∷ four_bytes limit
edit_bytes (Floor layer key sender value) = 0x02 ∷ layer_byte layer ∷ key ++ (eight_bytes sender ++ four_bytes value)
edit_bytes (Start key value) = 0x0e ∷ key ++ four_bytes value
edit_bytes (Moved move) = move_bytes move

abbrev pub is_stored : Edit → Bool
is_stored (Moved (Draw key)) = false
is_stored _ = true

unfoldable pub payload : List Edit → Bytes
payload edits = length (filter is_stored edits) ∷ flat_map edit_bytes edits
