-- What the laws ask so that all changes of an answer can be stored: of the tools, and of the keys in the changes.
use Rattle.std.specs.Prelude.{ℕ, ◌≡◌, Bool, true, length, Option, Some, None, nat_eq}
use Rattle.zb_model.specs.Data.{Bytes, Nwk, Aps, Term, DropNet, DropLink, Install, Active, Row, Pair, Edit, Reserve, Floor, Start, Moved}
use Rattle.zb_model.specs.Tools.{Tools, NwkShown, NwkAuxiliary, ApsShown, ApsAuxiliary}

-- the greatest number of bytes of an entry's payload
abbrev pub payload_room : ℕ
payload_room = 481

-- the source that an APS frame shows, or the source that was given for it
abbrev pub source_or : ℕ → Option ℕ → ℕ
source_or given None = given
source_or given (Some source) = source

-- The term that a frame opens to is of its layer, and has the base key under which the bytes opened. Its source and
-- counter are those of the auxiliary header, by which the frame was verified. Otherwise the stored floor would be
-- another row's.
pub record OpensAsJudged (tools : Tools) : Type 0 where
  pub nwk : (bytes key : Bytes) (f : NwkShown) (aux : NwkAuxiliary) (t : Term) → tools.read_nwk bytes ≡ Some f
      → f.auxiliary ≡ Some aux → tools.open_nwk bytes key ≡ Some t
      → (t.layer ≡ Nwk) × (t.base ≡ key) × (t.source ≡ aux.source) × (t.counter ≡ aux.counter)
  pub aps : (bytes key : Bytes) (given : ℕ) (a : ApsShown) (aux : ApsAuxiliary) (t : Term) → tools.read_aps bytes
      ≡ Some a → a.auxiliary ≡ Some aux → tools.open_aps bytes key given ≡ Some t
      → (t.layer ≡ Aps) × (t.base ≡ key) × (t.source ≡ source_or given aux.source) × (t.counter ≡ aux.counter)

-- The keys that a change spells have 16 bytes, like those of a program's changes by their type; a draw spells none.
abbrev pub is_key : Bytes → Bool
is_key key = nat_eq (length key) 16

abbrev pub has_whole_keys : Edit → Bool
has_whole_keys (Reserve layer limit) = true
has_whole_keys (Floor layer key sender value) = is_key key
has_whole_keys (Start key value) = is_key key
has_whole_keys (Moved (DropNet key)) = is_key key
has_whole_keys (Moved (DropLink partner key)) = is_key key
has_whole_keys (Moved (Install key sequence)) = is_key key
has_whole_keys (Moved (Active key)) = is_key key
has_whole_keys (Moved (Row partner key attribute)) = is_key key
has_whole_keys (Moved (Pair first second key)) = is_key key
has_whole_keys (Moved m) = true
