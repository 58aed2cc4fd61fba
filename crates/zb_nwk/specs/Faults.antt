-- When bytes have each fault, in terms of the bytes and all possible frames, without any order of reading.
use Rattle.std.specs.Prelude.{◌≡◌, ◌≢◌, ℕ, ◌^◌, ◌<◌, ◌≤◌, ◌⊎◌, true, false, List, ◌∷◌, ◌++◌, length}
use Rattle.std.specs.Int.{w16}
use Rattle.zb_cursor.specs.Spelling.{number, bit}
use Rattle.zb_nwk.specs.declared.fault.NwkError.{NwkError}
use Rattle.zb_nwk.specs.declared.fault.NwkError.TheVariants.{TooLong, Short, FrameType, Version, KeyId, NoSource}
use Rattle.zb_nwk.specs.declared.header.NwkHeader.{NwkHeader}
use Rattle.zb_nwk.specs.declared.frame.NwkFrame.{NwkFrame}
use Rattle.zb_nwk.specs.Spelling.{header}
use Rattle.zb_nwk.specs.Shape.{kind, version, key_id, IsHeader, HeaderInRange, IsFrame}
use Rattle.zb_base.specs.Limits.{longest_frame}

-- Some longer bytes with this prefix are a frame, possibly longer than 127.
abbrev pub CanGoOn : List ℕ → Type 0
CanGoOn bytes = (more : List ℕ) × (f : NwkFrame) × IsFrame (bytes ++ more) f

-- The bytes ran out: they aren't a frame, and either their control word isn't whole or longer bytes can be a frame.
pub record IsCut (bytes : List ℕ) : Type 0 where
  pub no_frame : (f : NwkFrame) → ¬ IsFrame bytes f
  pub goes_on : (length bytes < 2) ⊎ CanGoOn bytes

-- The bytes begin with this control word.
pub record BeginsWith (bytes : List ℕ) (control : ℕ) (rest : List ℕ) : Type 0 where
  pub parts : bytes ≡ number w16 control ++ rest
  pub in_range : control < 2 ^ 16

-- The bytes begin with the header of a secured frame, and then with this auxiliary control byte.
pub record IsSecuredBy (bytes : List ℕ) (control : ℕ) (h : NwkHeader) (rest : List ℕ) : Type 0 where
  pub shaped : IsHeader h
  pub in_range : HeaderInRange h
  pub secured : bit h.control 9 ≡ true
  pub parts : bytes ≡ header h ++ (control ∷ rest)

-- what a fault of at most 127 bytes means for them
abbrev pub Explains : List ℕ → NwkError → Type 0
Explains bytes TooLong = ⊥
Explains bytes (Short place) = (place ≡ length bytes) × IsCut bytes
Explains bytes (FrameType found) = (control : ℕ) × (rest : List ℕ) × BeginsWith bytes control rest
    × (kind control ≡ found) × (2 ≤ found)
Explains bytes (Version found) = (control : ℕ) × (rest : List ℕ) × BeginsWith bytes control rest × (kind control < 2)
    × (version control ≡ found) × (found ≢ 2)
Explains bytes (KeyId found) = (control : ℕ) × (h : NwkHeader) × (rest : List ℕ) × IsSecuredBy bytes control h rest
    × (key_id control ≡ found) × (found ≢ 1)
Explains bytes NoSource = (control : ℕ) × (h : NwkHeader) × (rest : List ℕ) × IsSecuredBy bytes control h rest
    × (key_id control ≡ 1) × (bit control 5 ≡ false)

-- The bytes have the fault.
abbrev pub HasFault : List ℕ → NwkError → Type 0
HasFault bytes TooLong = longest_frame < length bytes
HasFault bytes e = (length bytes ≤ longest_frame) × Explains bytes e
