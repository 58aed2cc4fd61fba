-- What the policy takes from the layers below, as one record: sealing and opening, hashing, and how frames and
-- commands are read and written. The rules use these as they are; no law depends on their definitions.
use Rattle.std.specs.Prelude.{ℕ, Bool, Option}
use Rattle.zb_model.specs.Data.{Bytes, Label, ForData, ForNetwork, ForTransport, ForLoad, Term, Command}

-- The auxiliary header of a secured NWK frame: its frame counter, its source's EUI and its key's sequence.
pub record NwkAuxiliary : Type 0 where
  pub counter : ℕ
  pub source : ℕ
  pub sequence : ℕ

-- What a NWK frame shows before it is opened: whether it is a command, its short addresses, its auxiliary header if it
-- is secured, and its payload if it isn't.
pub record NwkShown : Type 0 where
  pub is_command : Bool
  pub destination : ℕ
  pub source : ℕ
  pub auxiliary : Option NwkAuxiliary
  pub body : Bytes

-- The auxiliary header of a secured APS frame: its label, its frame counter, and its source's EUI if it has one.
pub record ApsAuxiliary : Type 0 where
  pub label : Label
  pub counter : ℕ
  pub source : Option ℕ

-- What an APS frame shows: whether it is a command (else data or an acknowledgement), its auxiliary header if it is
-- secured, and its payload if it isn't.
pub record ApsShown : Type 0 where
  pub is_command : Bool
  pub auxiliary : Option ApsAuxiliary
  pub body : Bytes

-- What bytes are as an APS command: a known one; one whose identifier or key type is unknown; or none.
pub data CommandShown : Type 0 where
  Known : (command : Command) → CommandShown
  Unknown : CommandShown
  Broken : CommandShown

-- What bytes are as a NWK command: a Leave with its options; a command of another identifier; or none.
pub data LeaveShown : Type 0 where
  Leave : (options : ℕ) → LeaveShown
  Other : LeaveShown
  NoCommand : LeaveShown

pub record Tools : Type 0 where
  -- the frame of a sealed term
  pub wire : Term → Bytes
  -- the keyed hash of a key over one byte: 00 gives its transport key, 02 its load key, 03 what Verify-Key shows of it
  pub keyed : Bytes → ℕ → Bytes
  -- a NWK frame, and what it opens to under a base key
  pub read_nwk : Bytes → Option NwkShown
  pub open_nwk : Bytes → Bytes → Option Term
  -- an APS frame, and what it opens to under a base key, with the source that it may leave out
  pub read_aps : Bytes → Option ApsShown
  pub open_aps : Bytes → Bytes → ℕ → Option Term
  pub read_command : Bytes → CommandShown
  pub spelled : Command → Bytes
  pub read_leave : Bytes → LeaveShown

-- The key under which a base key seals with a label (05-3474-21, 4.5.3): itself for data and network, else derived.
unfoldable pub sealing_key : Tools → Label → Bytes → Bytes
sealing_key tools ForData key = key
sealing_key tools ForNetwork key = key
sealing_key tools ForTransport key = tools.keyed key 0
sealing_key tools ForLoad key = tools.keyed key 2

-- The proof of a link key that Verify-Key shows.
abbrev pub verify_hash : Tools → Bytes → Bytes
verify_hash tools key = tools.keyed key 3
