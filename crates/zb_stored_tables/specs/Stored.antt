-- Tables as the core of a host has them: what a record and the entries after it give, and what stands on a disk of
-- them.
use Rattle.std.specs.Prelude.{◌≡◌, ℕ, ◌+◌, ◌≤◌, Bool, true, not, ◌&&◌, ◌==◌, if◌then◌else◌, List, length, get_or, Option, Some, None, Result, Ok, Err, is_some}
use Rattle.std.specs.List.{AllByRecursion}
use Rattle.zb_base.specs.declared.fault.OrMemory.{OrMemory}
use Rattle.zb_base.specs.declared.fault.OrMemory.TheVariants.{Fault, NoMemory}
use Rattle.zb_node_types.specs.declared.change.Change.{Change}
use Rattle.zb_node_types.specs.declared.fault.KeyError.{KeyError}
use Rattle.zb_node_types.specs.declared.fault.KeyError.TheVariants.{KeyOld, KeysFull, RowsFull, KeyInUse, NoRow, WrongHash, BadRecord}
use Rattle.zb_node_types.specs.Changes.{edits}
use Rattle.zb_host.specs.Plans.{Restored, gives, bad}
use Rattle.zb_model.specs.Data.{Role, Layer, Nwk, Aps}
use Rattle.zb_model.specs.State.{NodeState, active_row, after_boot, applied_all, shown}
use Rattle.zb_model.specs.Fits.{AllFit, keeps_rules}
use Rattle.zb_model.specs.Record.{role_byte, payload, record_of}
use Rattle.zb_record.specs.declared.version.Version.{Version}
use Rattle.zb_record.specs.declared.version.Version.TheVariants.{Third}
use Rattle.zb_record.specs.Fields.{record_version}
use Rattle.zb_record.specs.Ranges.{FitsBytes, InRange, fits_widths}
use Rattle.zb_record.specs.Records.{record_read}
use Rattle.zb_record.specs.Redoing.{redone, place_of}
use Rattle.zb_base.specs.Sizes.{payload_room}

-- the version of a record; one that is read has one
abbrev pub version_or : Option Version → Version
version_or (Some version) = version
version_or None = Third

abbrev pub version_in : List ℕ → Version
version_in content = version_or (record_version content)

-- A record of another role than the core's, or of none, is bad at its second byte, whatever else is wrong after it.
abbrev pub is_of_other : Role → List ℕ → Bool
is_of_other role content = is_some (record_version content) && not (get_or content 1 3 == role_byte role)

-- The entries after a record of `before` bytes were made again, and the node boots with what they leave. Or they are
-- at fault, at a place that counts on from the record's length.
abbrev pub behind : ℕ → ℕ → NodeState → Result (List ℕ) ℕ → Result NodeState ℕ
behind before total t (Ok rest) = Ok (after_boot t)
behind before total t (Err left) = Err (before + place_of total left)

abbrev pub state_behind : List ℕ → List ℕ → Result NodeState ℕ → Result NodeState ℕ
state_behind content entries (Ok s) = behind (length content) (length entries)
    (redone (version_in content) entries s).0 (redone (version_in content) entries s).1
state_behind content entries (Err left) = Err (place_of (length content) left)

-- The state with which a node of this role boots on a record and the payloads after it, or the place of the first
-- fault.
unfoldable pub state_given : Role → List ℕ → List ℕ → Result NodeState ℕ
state_given role content entries = if is_of_other role content then Err 1
    else state_behind content entries (record_read content)

-- of tables that aren't made: bad bytes, at their place, or out of memory, and no other fault
abbrev pub IsGivenFault : Result NodeState ℕ → OrMemory KeyError → Type 0
IsGivenFault given (Fault (KeyOld place)) = ⊥
IsGivenFault given (Fault KeysFull) = ⊥
IsGivenFault given (Fault RowsFull) = ⊥
IsGivenFault given (Fault (KeyInUse partner)) = ⊥
IsGivenFault given (Fault NoRow) = ⊥
IsGivenFault given (Fault WrongHash) = ⊥
IsGivenFault given (Fault (BadRecord at)) = given ≡ Err at
IsGivenFault given NoMemory = Unit {0}

-- A law's list of numbers may have some that are no bytes, and so give values that no record has. They give no core;
-- from bytes every value fits (`what_bytes_give_is_kept`).
abbrev pub recorded : Result NodeState ℕ → Restored
recorded (Ok t) = if fits_widths t then gives (record_of t) else bad 0
recorded (Err at) = bad at

-- The record of the core of this role that a record and the payloads after it give.
unfoldable pub restored : Role → List ℕ → List ℕ → Restored
restored role content entries = recorded (state_given role content entries)

-- What a node's tables keep at all times: the rules for records, no floors of dropped network keys, and values within
-- the widths of a record.
pub record IsKept (s : NodeState) : Type 0 where
  pub rules : keeps_rules s ≡ true
  pub forgets : shown s ≡ s
  pub widths : FitsBytes s

-- What a plan of a core over tables of this role keeps. Its changes are made of values that can be spelled. Each fits
-- the tables after those before it, and all have room in an entry.
pub record IsStorable (role : Role) (s : NodeState) (changes : List Change) : Type 0 where
  pub role_is : s.role ≡ role
  pub kept : IsKept s
  pub range : AllByRecursion InRange changes
  pub fit : AllFit (edits changes) s
  pub short : length (payload (edits changes)) ≤ payload_room

-- After a plan the tables are those after its changes, but for the counters and floors in memory, which seals and
-- accepted frames move.
abbrev pub IsStoredAfter : List Change → NodeState → NodeState → Type 0
IsStoredAfter changes s t = after_boot t ≡ after_boot (shown (applied_all (edits changes) s))

-- At NWK a reserve needs an active network key.
abbrev pub MayReserve : Layer → NodeState → Type 0
MayReserve Nwk s = is_some (active_row s) ≡ true
MayReserve Aps s = Unit {0}
