-- What the calls of a store promise.
use Rattle.std.specs.List.{concat}
use Rattle.std.specs.Prelude.{◌&&◌, true, false, ◌^◌, ◌==◌, if◌then◌else◌, Result, OnOk, OnErr, ℕ, ◌+◌, ◌≤◌, ◌<◌, ◌≡◌, ◌≢◌, ◌⊎◌, ◌++◌, List, [], ◌∷◌, length, get_or, Bool, not, IsTrue, Some, None}
use Rattle.zb_disk.specs.View.{Telling, View, Torn, Follows, IsSame, IsStill, IsUnsynced, Only, LeavesOnly}
use Rattle.zb_base.specs.Outside.{HasCause}
use Rattle.zb_base.specs.Sizes.{record_room}
use Rattle.zb_store.specs.Layout.{Standing, IsWhole, stands, slot, gate_of, open_gate, base_of, end_of, body}
use Rattle.zb_store.specs.Steps.{WentThrough, StoppedAfter, WasAsked}

-- where a store goes on: its slot, the generation, the place in the slot after the last entry, and how many entries
-- stand
pub record Place : Type 0 where
  pub second : Bool
  pub generation : ℕ
  pub end : ℕ
  pub entries : ℕ

abbrev pub place_of : Standing → Place
place_of s = record { second = s.second; generation = s.generation; end = end_of s; entries = length s.payloads }

-- every image is whole and represents this, and the other slot's gate is closed in every image
pub record IsHeld (s : Standing) (v : View) : Type 0 where
  pub whole : (c : List ℕ) → v.images c → IsWhole s c
  pub closed : (c : List ℕ) → v.images c → gate_of (slot (not s.second) c) ≢ open_gate

-- a store is ready: it keeps the place of what is held
pub record IsReady (store : Place) (s : Standing) (v : View) : Type 0 where
  pub place : store ≡ place_of s
  pub held : IsHeld s v

-- what stands after `append`: the payload is added
abbrev pub appended : Standing → List ℕ → Standing
appended s payload = record s { payloads = s.payloads ++ payload ∷ [] }

-- what stands after `put`: the record alone, in the other slot
abbrev pub replaced : Standing → List ℕ → Standing
replaced s content = record { second = not s.second; generation = s.generation + 1; content = content; payloads = [] }

-- an image is whole and represents the old or for the new
abbrev pub IsWholeEither : Standing → Standing → List ℕ → Type 0
IsWholeEither old new c = IsWhole old c ⊎ IsWhole new c

-- Only this gate is unsynced, and it reads open. An image represents the new exactly where the gate is open in it.
pub record IsGateOpening (gate : ℕ) (old new : Standing) (v : View) : Type 0 where
  pub unsynced : IsUnsynced gate 1 v
  pub reads : get_or v.seen gate 0 ≡ open_gate
  pub committed : (c : List ℕ) → v.images c → get_or c gate 0 ≡ open_gate → IsWhole new c
  pub not_committed : (c : List ℕ) → v.images c → get_or c gate 0 ≢ open_gate → IsWhole old c

-- Both gates are open, all is synced, and the new stands.
pub record IsBothOpen (gate old_gate : ℕ) (new : Standing) (v : View) : Type 0 where
  pub synced : Only v.seen v.images
  pub new_open : get_or v.seen gate 0 ≡ open_gate
  pub old_open : get_or v.seen old_gate 0 ≡ open_gate
  pub whole : IsWhole new v.seen

-- Only the old gate is unsynced, and it reads 00. The new stands in every image.
pub record IsGateClosing (gate : ℕ) (s : Standing) (v : View) : Type 0 where
  pub unsynced : IsUnsynced gate 1 v
  pub reads : get_or v.seen gate 0 ≡ 0
  pub whole : (c : List ℕ) → v.images c → IsWhole s c

-- the old stands in every image, and the gate to be opened is open in none
pub record IsUntouched (gate : ℕ) (s : Standing) (v : View) : Type 0 where
  pub whole : (c : List ℕ) → v.images c → IsWhole s c
  pub closed : (c : List ℕ) → v.images c → get_or c gate 0 ≢ open_gate

-- the gate of the next entry, and that of the other slot, on the disk
abbrev pub entry_gate : Standing → ℕ
entry_gate s = base_of s.second + end_of s

abbrev pub other_gate : Standing → ℕ
other_gate s = base_of (not s.second)

-- the gate of the other slot is open in no image
abbrev pub IsOtherShut : Standing → View → Type 0
IsOtherShut s v = (c : List ℕ) → v.images c → gate_of (slot (not s.second) c) ≢ open_gate

-- An `append` that failed: after how many writes and syncs, and what it left.
pub data AppendStop (tells : Telling) (s : Standing) (payload : List ℕ) (old new : View) : Type 0 where
  not_begun : (n : ℕ) → n < 3 → StoppedAfter tells n old new → IsUntouched (entry_gate s) s new → IsOtherShut s new
      → AppendStop tells s payload old new
  opening : StoppedAfter tells 3 old new → IsGateOpening (entry_gate s) s (appended s payload) new → IsOtherShut s new
      → AppendStop tells s payload old new

-- A `put` that failed likewise.
pub data PutStop (tells : Telling) (s : Standing) (content : List ℕ) (old new : View) : Type 0 where
  not_begun : (n : ℕ) → n < 3 → StoppedAfter tells n old new → IsUntouched (other_gate s) s new
      → PutStop tells s content old new
  opening : StoppedAfter tells 3 old new → IsGateOpening (other_gate s) s (replaced s content) new
      → PutStop tells s content old new
  both_open : StoppedAfter tells 4 old new → IsBothOpen (other_gate s) (base_of s.second) (replaced s content) new
      → PutStop tells s content old new
  closing : StoppedAfter tells 5 old new → IsGateClosing (base_of s.second) (replaced s content) new
      → PutStop tells s content old new

-- the gates of both slots are open
abbrev pub both_gates_open : List ℕ → Bool
both_gates_open bytes = gate_of (slot false bytes) == open_gate && gate_of (slot true bytes) == open_gate

-- how many writes and syncs an `open` makes: where both gates are open it closes one of them
abbrev pub open_calls : List ℕ → ℕ
open_calls bytes = if both_gates_open bytes then 3 else 1

-- An `open` that failed likewise. It makes its reads before its first sync; a read fails where the disk is off. Only
-- where it found the gates of both slots open it goes on after the sync.
pub data OpenStop (tells : Telling) (s : Standing) (old new : View) : Type 0 where
  reading : (IsTrue tells.refusals → old.off 0 ≡ true) → IsStill old new → OpenStop tells s old new
  not_synced : StoppedAfter tells 0 old new → IsSame old new → OpenStop tells s old new
  both_open : both_gates_open old.seen ≡ true → StoppedAfter tells 1 old new
      → IsBothOpen (base_of s.second) (other_gate s) s new → OpenStop tells s old new
  closing : both_gates_open old.seen ≡ true → StoppedAfter tells 2 old new → IsGateClosing (other_gate s) s new
      → OpenStop tells s old new

-- what `put` writes for this record: into the other slot, with the next generation
pub record IsReplacement (s : Standing) (content : List ℕ) (second : Bool) (bytes : List ℕ) : Type 0 where
  pub place : second ≡ not s.second
  pub bytes_are : bytes ≡ body (s.generation + 1) content
  pub small : length content ≤ record_room
  pub later : s.generation + 1 < 2 ^ 64

-- a record with no entries is written into a slot, its gate is opened, and that of the other slot is closed
pub record IsReplaced {T E : Type 0} (tells : Telling) (second : Bool) (bytes : List ℕ) (old new : View)
    (result : Result T E) : Type 0 where
  pub moments : (s : Standing) (content : List ℕ) → IsReplacement s content second bytes → IsHeld s old
      → IsTrue tells.content → LeavesOnly old new (IsWholeEither s (replaced s content))
  pub held : OnOk result ((s : Standing) (content : List ℕ) → IsReplacement s content second bytes → IsHeld s old
      → IsTrue tells.content → IsHeld (replaced s content) new)
  pub through : OnOk result (WentThrough tells 6 old new)
  pub stopped : OnErr result ((s : Standing) (content : List ℕ) → IsReplacement s content second bytes → IsHeld s old
      → IsTrue tells.content → IsTrue tells.steady → PutStop tells s content old new)
  pub cause : HasCause old.faults new.faults result
  pub asked : WasAsked tells old new

-- an image is whole and represents what an image at the beginning stood for
abbrev pub WasThere : View → List ℕ → Type 0
WasThere old c = (s : Standing) × IsWhole s c × ((d : List ℕ) × old.images d × IsWhole s d)

-- what an `open` finds: what the disk as it reads represents, and whether the other slot's gate is open too
pub record IsFound (s : Standing) (second other_open : Bool) (v : View) : Type 0 where
  pub is : IsWhole s v.seen
  pub place : second ≡ s.second
  pub gate : other_open ≡ (gate_of (slot (not s.second) v.seen) == open_gate)

-- all is synced, and the other gate is closed where it was open
pub record IsSettled {T E : Type 0} (tells : Telling) (second other_open : Bool) (old new : View)
    (result : Result T E) : Type 0 where
  pub moments : (s : Standing) → IsFound s second other_open old → ((c : List ℕ) → old.images c → WasThere old c)
      → IsTrue tells.content → LeavesOnly old new (WasThere old)
  pub held : OnOk result ((s : Standing) → IsFound s second other_open old → IsTrue tells.content → IsHeld s new)
  pub through : OnOk result (WentThrough tells (if other_open then 3 else 1) old new)
  pub stopped : OnErr result ((s : Standing) → IsFound s second other_open old → IsTrue tells.content
      → IsTrue tells.steady → OpenStop tells s old new)
  pub cause : HasCause old.faults new.faults result
  pub asked : WasAsked tells old new

-- what stands on a disk that was formatted
abbrev pub formatted : List ℕ → Standing
formatted content = record { second = false; generation = 1; content = content; payloads = [] }

-- bytes in which the body of a first record and the gate of the second slot are torn
abbrev pub IsTornLayout : ℕ → List ℕ → List ℕ → Type 0
IsTornLayout n old new = (c : List ℕ) × Torn 1 n old c × Torn (base_of true) 1 c new

-- A `format` of this record that failed. The body and the closed gate of the second slot are synced before the gate of
-- the first is written. Where that was closed, nothing stands then, and the record stands in an image where the gate
-- is open in it.
pub data FormatStop (tells : Telling) (content : List ℕ) (old new : View) : Type 0 where
  unsynced : (n : ℕ) → n < 3 → StoppedAfter tells n old new → Follows (IsTornLayout (13 + length content)) old.images
      new.images → FormatStop tells content old new
  before_gate : StoppedAfter tells 3 old new
      → (get_or old.seen 0 0 ≢ open_gate → (c : List ℕ) → new.images c → stands c ≡ None)
      → FormatStop tells content old new
  opening : StoppedAfter tells 4 old new
      → ((c : List ℕ) → new.images c → get_or c 0 0 ≡ open_gate → IsWhole (formatted content) c)
      → ((c : List ℕ) → new.images c → get_or c 0 0 ≢ open_gate → stands c ≡ None) → FormatStop tells content old new

-- the body of a first record is written, and its gate is opened
pub record IsLaidOut {T E : Type 0} (tells : Telling) (bytes : List ℕ) (old new : View) (result : Result T E) : Type 0
  where
    pub held : OnOk result ((content : List ℕ) → bytes ≡ body 1 content → length content ≤ record_room
        → IsTrue tells.content → IsHeld (formatted content) new)
    pub through : OnOk result (WentThrough tells 5 old new)
    pub stopped : OnErr result ((content : List ℕ) → bytes ≡ body 1 content → length content ≤ record_room
        → IsTrue tells.content → IsTrue tells.steady → FormatStop tells content old new)
    pub cause : HasCause old.faults new.faults result
    pub asked : WasAsked tells old new

-- each image is whole
abbrev pub AllWhole : View → Type 0
AllWhole v = (c : List ℕ) → v.images c → (s : Standing) × IsWhole s c

-- the store, the record and the payloads that an `open` returns
pub record IsAnswerOf (s : Standing) (store : Place) (content payloads seen : List ℕ) : Type 0 where
  pub stands : stands seen ≡ Some s
  pub place : store ≡ place_of s
  pub record_is : content ≡ s.content
  pub payloads_are : payloads ≡ concat s.payloads

abbrev pub IsAnswer : Place → List ℕ → List ℕ → List ℕ → Type 0
IsAnswer store content payloads seen = (s : Standing) × IsAnswerOf s store content payloads seen
