-- What the bytes of a disk represent: a record with the entries after it, in one of two slots.
use Rattle.std.specs.Prelude.{ℕ, ◌+◌, ◌≤◌, ◌<◌, ◌≡◌, ◌≢◌, ◌==◌, ◌&&◌, ◌++◌, List, [], ◌∷◌, length, get_or, take, drop, Option, Some, None, Bool, true, false, not, zero, suc, nat_le, nat_lt, if◌then◌else◌}
use Rattle.zb_base.specs.Sizes.{record_room, payload_room, entries_room, slot_size}
use Rattle.std.specs.Int.{from_le_bytes, to_le_bytes, w16, w32, w64}

-- the byte that opens a slot or an entry
abbrev pub open_gate : ℕ
open_gate = 165

-- the second slot begins here
abbrev pub base_of : Bool → ℕ
base_of false = 0
base_of true = slot_size

-- the bytes of a slot; the flag tells whether it is the second
unfoldable pub slot : Bool → List ℕ → List ℕ
slot false bytes = take slot_size bytes
slot true bytes = drop slot_size bytes

-- what an open slot holds: its generation, its record, and the bytes after the record
pub record Opened : Type 0 where
  pub generation : ℕ
  pub content : List ℕ
  pub behind : List ℕ

-- a slot's first byte is its gate, then come its generation and the record's length, least significant byte first
abbrev pub gate_of : List ℕ → ℕ
gate_of bytes = get_or bytes 0 0

unfoldable pub generation_of : List ℕ → ℕ
generation_of bytes = from_le_bytes w64 (take 8 (drop 1 bytes))

unfoldable pub size_of : List ℕ → ℕ
size_of bytes = from_le_bytes w32 (take 4 (drop 9 bytes))

-- a slot is open where its gate is, and the record's length is at most the room of a record and lies within the disk
unfoldable pub opened : List ℕ → Option Opened
opened bytes = if gate_of bytes == open_gate && nat_le (size_of bytes) record_room
    && nat_le (13 + size_of bytes) (length bytes)
    then Some
    (record {
      generation = generation_of bytes;
      content = take (size_of bytes) (drop 13 bytes);
      behind = drop (13 + size_of bytes) bytes;
    })
    else None

-- a slot is open, and what it then holds
pub record IsOpen (s : List ℕ) : Type 0 where
  pub gate : gate_of s ≡ open_gate
  pub small : size_of s ≤ record_room
  pub within : 13 + size_of s ≤ length s

abbrev pub fields_of : List ℕ → Opened
fields_of s =
    record { generation = generation_of s; content = take (size_of s) (drop 13 s); behind = drop (13 + size_of s) s }

-- An entry is a gate, a length of two bytes and that many bytes of payload. It stands where the gate is open and the
-- length is at most the room of a payload and lies within the slot.
unfoldable pub entry_of : List ℕ → Option (List ℕ)
entry_of bytes =
    let size = from_le_bytes w16 (take 2 (drop 1 bytes)) in
    if get_or bytes 0 0 == open_gate && nat_le size payload_room && nat_le (3 + size) (length bytes)
    then Some (take size (drop 3 bytes)) else None

-- one payload and those after it, or none
abbrev pub followed : Option (List ℕ) → (List ℕ → List (List ℕ)) → List (List ℕ)
followed None behind = []
followed (Some payload) behind = payload ∷ behind payload

-- the payloads of the entries that stand one after the other, up to that many or to the first place where none stands
unfoldable pub payloads_of : ℕ → List ℕ → List (List ℕ)
payloads_of zero bytes = []
payloads_of (suc n) bytes = followed (entry_of bytes) (λ payload. payloads_of n (drop (3 + length payload) bytes))

-- how many bytes the entries of these payloads take
abbrev pub extent : List (List ℕ) → ℕ
extent [] = 0
extent (payload ∷ payloads) = 3 + length payload + extent payloads

-- what a disk represents, and where: the slot, its generation, the record and the payloads after it
pub record Standing : Type 0 where
  pub second : Bool
  pub generation : ℕ
  pub content : List ℕ
  pub payloads : List (List ℕ)

-- the place in its slot after the last entry
abbrev pub end_of : Standing → ℕ
end_of s = 13 + length s.content + extent s.payloads

abbrev pub standing_in : Bool → Opened → Standing
standing_in second o =
    record {
      second = second;
      generation = o.generation;
      content = o.content;
      payloads = payloads_of entries_room
          o.behind;
    }

-- of two open slots the one of the greater generation stands, and the first on a tie
unfoldable pub elected : Option Opened → Option Opened → Option Standing
elected None None = None
elected (Some a) None = Some (standing_in false a)
elected None (Some b) = Some (standing_in true b)
elected (Some a) (Some b) = if nat_lt a.generation b.generation then Some (standing_in true b)
    else Some (standing_in false a)

-- what the bytes represent
unfoldable pub stands : List ℕ → Option Standing
stands bytes = elected (opened (slot false bytes)) (opened (slot true bytes))

-- The bytes represent this and are whole: the other slot's gate and the byte after the last entry are there, and that
-- byte isn't an open gate.
pub record IsWhole (s : Standing) (bytes : List ℕ) : Type 0 where
  pub stands : stands bytes ≡ Some s
  pub other_gate : 0 < length (slot (not s.second) bytes)
  pub end : end_of s < length (slot s.second bytes)
  pub end_closed : get_or (slot s.second bytes) (end_of s) 0 ≢ open_gate

-- what a slot holds after its gate: the generation, the record with its length, and a closed gate for an entry
unfoldable pub body : ℕ → List ℕ → List ℕ
body generation content = to_le_bytes w64 generation ++ to_le_bytes w32 (length content) ++ content ++ 0 ∷ []

-- what an entry holds after its gate: the payload with its length, and a closed gate for the next one
unfoldable pub entry_body : List ℕ → List ℕ
entry_body payload = to_le_bytes w16 (length payload) ++ payload ++ 0 ∷ []
