-- What is read of a disk before its record is.
use Rattle.std.specs.Prelude.{ℕ, ◌+◌, ◌<◌, ◌≡◌, ◌==◌, ◌&&◌, ◌||◌, List, length, get_or, Option, Some, None, Bool, true, false, not, nat_le, nat_lt, if◌then◌else◌}
use Rattle.zb_store.specs.declared.reading.Header.{Header}
use Rattle.std.specs.List.{concat}
use Rattle.zb_store.specs.declared.reading.Found.{Found}
use Rattle.zb_store.specs.declared.reading.Contents.{Contents}
use Rattle.zb_base.specs.Sizes.{record_room}
use Rattle.zb_store.specs.Layout.{Standing, end_of, slot, stands, standing_in, IsOpen, fields_of, gate_of, generation_of, size_of, open_gate, entry_of}

-- the first 13 bytes of a slot
pub record IsHeaderOf (x : List ℕ) (h : Header) : Type 0 where
  pub gate : h.gate ≡ gate_of x
  pub generation : h.generation ≡ generation_of x
  pub size : h.size ≡ size_of x

-- whether a slot of `room` bytes is open
abbrev pub opens : Header → ℕ → Bool
opens h room = h.gate == open_gate && nat_le h.size record_room && nat_le (13 + h.size) room

abbrev pub found_in : Bool → Header → ℕ → Header → Found
found_in second h room other =
    record {
      second = second;
      generation = h.generation;
      size = h.size;
      room = room;
      other_open = other.gate == open_gate;
    }

-- which of two slots stands
abbrev pub chosen : Header → ℕ → Header → ℕ → Option Found
chosen a a_room b b_room =
    if opens b b_room && (not (opens a a_room) || nat_lt a.generation b.generation)
    then Some (found_in true b b_room a) else (if opens a a_room then Some (found_in false a a_room b) else None)

-- what was found is what stands
pub record IsFoundIn (f : Found) (seen : List ℕ) : Type 0 where
  pub stands : stands seen ≡ Some (standing_in f.second (fields_of (slot f.second seen)))
  pub open_slot : IsOpen (slot f.second seen)
  pub generation : f.generation ≡ generation_of (slot f.second seen)
  pub size : f.size ≡ size_of (slot f.second seen)
  pub room : f.room ≡ length (slot f.second seen)
  pub other : f.other_open ≡ (gate_of (slot (not f.second) seen) == open_gate)

-- these bytes stand on the disk from a place on; there are `room` of them, and the first ones are known, up to a reach
pub record IsBehind (bytes : List ℕ) (start room reach : ℕ) (seen : List ℕ) : Type 0 where
  pub size : length bytes ≡ room
  pub same : (k : ℕ) → k < room → k < reach → get_or bytes k 0 ≡ get_or seen (start + k) 0

-- the length of an entry, where there is one
abbrev pub size_in : Option (List ℕ) → Option ℕ
size_in None = None
size_in (Some payload) = Some (length payload)

-- the length of the entry that stands at the start
abbrev pub size_at : List ℕ → Option ℕ
size_at bytes = size_in (entry_of bytes)

-- what was read is what stands
pub record IsReadAs (s : Standing) (r : Contents) (seen : List ℕ) : Type 0 where
  pub stands : stands seen ≡ Some s
  pub second : r.found.second ≡ s.second
  pub generation : r.found.generation ≡ s.generation
  pub content : r.content.items ≡ s.content
  pub payloads : r.payloads.items ≡ concat s.payloads
  pub entries : r.entries ≡ length s.payloads
  pub end : r.end ≡ end_of s
  pub other : r.found.other_open ≡ (gate_of (slot (not s.second) seen) == open_gate)

-- the generation that stands, and how many entries
abbrev pub AreCounted : ℕ → ℕ → List ℕ → Type 0
AreCounted generation entries seen = (s : Standing) × (stands seen ≡ Some s) × (generation ≡ s.generation)
    × (entries ≡ length s.payloads)

-- the record that stands, and the payloads after it one after the other
abbrev pub AreContents : List ℕ → List ℕ → List ℕ → Type 0
AreContents content payloads seen = (s : Standing) × (stands seen ≡ Some s) × (content ≡ s.content)
    × (payloads ≡ concat s.payloads)

abbrev pub IsReadIn : Contents → List ℕ → Type 0
IsReadIn r seen = (s : Standing) × IsReadAs s r seen
