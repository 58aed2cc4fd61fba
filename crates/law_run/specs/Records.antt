-- A record read back, field by field in the order in which it is spelled. What a record doesn't keep is as it is
-- after a boot: the next counters are the limits, and the floors in memory are the stored ones. A dropped network key
-- has no floors.
use Rattle.std.specs.Prelude.{◌≡◌, ℕ, zero, suc, ◌<◌, ◌^◌, Bool, true, false, if◌then◌else◌, List, [], ◌∷◌, length, take, drop, slice_get, Option, Some, None, option_map, nat_eq, nat_lt, is_some}
use Rattle.std.specs.Int.{Width, w16, w32, w64, byte_len, from_le_bytes}
use Rattle.std.specs.List.{AllByRecursion}
use Rattle.zb_model.specs.Data.{Bytes, Role, Centre, Router, Device, State, Fresh, Knocked, Joined, Offered, Confirmed, Rejoining, Gone, Attribute, Provisional, Unverified, Verified}
use Rattle.zb_model.specs.State.{SenderFloor, NetKey, LinkKey, PairKey, NodeState, net_of_active}
use Rattle.zb_model.specs.Record.{no_place}

-- Readings: a value is taken from the start of bytes

abbrev pub Taking : Type 0 → Type 0
Taking A = Bytes → Option (A × Bytes)

unfoldable pub follow : {A B : Type 0} → Option (A × Bytes) → (A → Taking B) → Option (B × Bytes)
follow None next = None
follow (Some x) next = next x.0 x.1

infixl 10 ◌>>=◌
abbrev pub ◌>>=◌ : {A B : Type 0} → Taking A → (A → Taking B) → Taking B
(first >>= next) bytes = follow (first bytes) next

abbrev pub give : {A : Type 0} → A → Taking A
give x bytes = Some (x, bytes)

-- a value, if there is one
unfoldable pub chosen : {A : Type 0} → Option A → Taking A
chosen None bytes = None
chosen (Some x) bytes = Some (x, bytes)

abbrev pub a_byte : Taking ℕ
a_byte [] = None
a_byte (b ∷ rest) = Some (b, rest)

unfoldable pub some_bytes : ℕ → Taking Bytes
some_bytes n bytes = if nat_lt (length bytes) n then None else Some (take n bytes, drop n bytes)

-- a number of 2, 4 or 8 bytes, the lowest first
unfoldable pub a_number : Width → Taking ℕ
a_number w bytes = if nat_lt (length bytes) (byte_len w) then None
    else Some (from_le_bytes w (take (byte_len w) bytes), drop (byte_len w) bytes)

unfoldable pub so_many : {A : Type 0} → Taking A → ℕ → Taking (List A)
so_many read zero bytes = Some ([], bytes)
so_many read (suc n) bytes =
    follow (read bytes) (λ x rest. follow (so_many read n rest) (λ xs end_. Some (x ∷ xs, end_)))

-- Bytes that represent one of a few values

unfoldable pub role_of_byte : ℕ → Option Role
role_of_byte zero = Some Centre
role_of_byte (suc zero) = Some Router
role_of_byte (suc (suc zero)) = Some Device
role_of_byte _ = None

unfoldable pub state_of_byte : ℕ → Option State
state_of_byte zero = Some Fresh
state_of_byte (suc zero) = Some Knocked
state_of_byte (suc (suc zero)) = Some Joined
state_of_byte (suc (suc (suc zero))) = Some Offered
state_of_byte (suc (suc (suc (suc zero)))) = Some Confirmed
state_of_byte (suc (suc (suc (suc (suc zero))))) = Some Rejoining
state_of_byte (suc (suc (suc (suc (suc (suc zero)))))) = Some Gone
state_of_byte _ = None

unfoldable pub attribute_of_byte : ℕ → Option Attribute
attribute_of_byte zero = Some Provisional
attribute_of_byte (suc zero) = Some Unverified
attribute_of_byte (suc (suc zero)) = Some Verified
attribute_of_byte _ = None

unfoldable pub yes_or_no : ℕ → Option Bool
yes_or_no zero = Some false
yes_or_no (suc zero) = Some true
yes_or_no _ = None

-- the version of the record, and the byte that closes a pair
abbrev pub only : ℕ → ℕ → Option (Unit {0})
only wanted b = if nat_eq b wanted then Some tt else None

-- flags: live and started; live, from a code, and told
unfoldable pub two_flags : ℕ → Option (Bool × Bool)
two_flags zero = Some (false, false)
two_flags (suc zero) = Some (true, false)
two_flags (suc (suc zero)) = Some (false, true)
two_flags (suc (suc (suc zero))) = Some (true, true)
two_flags _ = None

unfoldable pub three_flags : ℕ → Option (Bool × Bool × Bool)
three_flags zero = Some (false, false, false)
three_flags (suc zero) = Some (true, false, false)
three_flags (suc (suc zero)) = Some (false, true, false)
three_flags (suc (suc (suc zero))) = Some (true, true, false)
three_flags (suc (suc (suc (suc zero)))) = Some (false, false, true)
three_flags (suc (suc (suc (suc (suc zero))))) = Some (true, false, true)
three_flags (suc (suc (suc (suc (suc (suc zero)))))) = Some (false, true, true)
three_flags (suc (suc (suc (suc (suc (suc (suc zero))))))) = Some (true, true, true)
three_flags _ = None

-- Rows

-- key, sequence, flags, limit; its floors come after all rows
unfoldable pub net_at : Taking NetKey
net_at = do
  key ← some_bytes 16
  sequence ← a_byte
  byte ← a_byte
  flags ← chosen (two_flags byte)
  limit ← a_number w32
  give (record {
    key = key;
    sequence = sequence;
    live = flags.0;
    started = flags.1;
    limit = limit;
    next = limit;
    floors = [];
  })

unfoldable pub sender_at : Taking SenderFloor
sender_at = do
  sender ← a_number w64
  stored ← a_number w32
  give (record { sender = sender; kept = stored; stored = stored })

unfoldable pub floors_at : Taking (List SenderFloor)
floors_at = do
  count ← a_byte
  so_many sender_at count

-- the floors of each live row, in the order of the rows
unfoldable pub with_floors : List NetKey → Taking (List NetKey)
with_floors [] bytes = Some ([], bytes)
with_floors (r ∷ rs) bytes =
    if r.live
    then follow (floors_at bytes)
    (λ floors rest. follow (with_floors rs rest) (λ nets end_. Some (record r { floors = floors } ∷ nets, end_)))
    else follow (with_floors rs bytes) (λ nets end_. Some (r ∷ nets, end_))

-- partner, key, attribute, flags, floor
unfoldable pub link_at : Taking LinkKey
link_at = do
  partner ← a_number w64
  key ← some_bytes 16
  attribute ← a_byte
  model_attribute ← chosen (attribute_of_byte attribute)
  byte ← a_byte
  flags ← chosen (three_flags byte)
  stored ← a_number w32
  give (record {
    partner = partner;
    key = key;
    attribute = model_attribute;
    live = flags.0;
    code = flags.1;
    told = flags.2;
    kept = stored;
    stored = stored;
  })

unfoldable pub pair_at : Taking PairKey
pair_at = do
  first ← a_number w64
  second ← a_number w64
  key ← some_bytes 16
  byte ← a_byte
  live ← chosen (only 1 byte)
  give (record { first = first; second = second; key = key })

-- the key of the row at a place; FFFF means no place
unfoldable pub active_at : ℕ → List NetKey → Option (Option Bytes)
active_at place nets = if nat_eq place no_place then Some None
    else option_map (λ (r : NetKey). Some r.key) (slice_get nets place)

-- The whole record, version 3.
unfoldable pub record_at : Taking NodeState
record_at = do
  version ← a_byte
  three ← chosen (only 3 version)
  role ← a_byte
  model_role ← chosen (role_of_byte role)
  step ← a_byte
  state ← chosen (state_of_byte step)
  declared ← a_number w32
  aps ← a_number w32
  roll ← a_byte
  sending ← chosen (yes_or_no roll)
  net_count ← a_number w16
  place ← a_number w16
  rows ← so_many net_at net_count
  nets ← with_floors rows
  active ← chosen (active_at place nets)
  link_count ← a_number w16
  links ← so_many link_at link_count
  pair_count ← a_number w16
  pairs ← so_many pair_at pair_count
  give (record {
    role = model_role;
    state = state;
    declared = declared;
    aps_limit = aps;
    aps_next = aps;
    sending = sending;
    nets = nets;
    active = active;
    links = links;
    pairs = pairs;
  })

abbrev pub whole : Option (NodeState × Bytes) → Option NodeState
whole None = None
whole (Some x) = if nat_eq (length x.1) 0 then Some x.0 else None

-- The state that a record represents: all its bytes are read.
unfoldable pub state_in : Bytes → Option NodeState
state_in bytes = whole (record_at bytes)

-- What fits the widths of a record: keys have 16 bytes, and the active key has a row.

pub record NetFits (r : NetKey) : Type 0 where
  pub key : length r.key ≡ 16
  pub limit : r.limit < 2 ^ 32
  pub floors : AllByRecursion (λ (f : SenderFloor). (f.sender < 2 ^ 64) × (f.stored < 2 ^ 32)) r.floors

pub record LinkFits (r : LinkKey) : Type 0 where
  pub partner : r.partner < 2 ^ 64
  pub key : length r.key ≡ 16
  pub stored : r.stored < 2 ^ 32

pub record PairFits (p : PairKey) : Type 0 where
  pub first : p.first < 2 ^ 64
  pub second : p.second < 2 ^ 64
  pub key : length p.key ≡ 16

abbrev pub HasActive : NodeState → Option Bytes → Type 0
HasActive s None = Unit {0}
HasActive s (Some key) = is_some (net_of_active (Some key) s) ≡ true

pub record FitsRecord (s : NodeState) : Type 0 where
  pub declared : s.declared < 2 ^ 32
  pub aps_limit : s.aps_limit < 2 ^ 32
  pub net_count : length s.nets < no_place
  pub link_count : length s.links < 2 ^ 16
  pub pair_count : length s.pairs < 2 ^ 16
  pub nets : AllByRecursion NetFits s.nets
  pub links : AllByRecursion LinkFits s.links
  pub pairs : AllByRecursion PairFits s.pairs
  pub active : HasActive s s.active
