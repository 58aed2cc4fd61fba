-- When bytes have each fault, in terms of the bytes and all possible frames, without any order of reading.
use Rattle.std.specs.Prelude.{◌≡◌, ℕ, ◌<◌, ◌≤◌, true, List, ◌∷◌, ◌++◌, length}
use Rattle.zb_cursor.specs.Spelling.{bit}
use Rattle.zb_aps.specs.declared.fault.ApsError.{ApsError}
use Rattle.zb_aps.specs.declared.fault.ApsError.TheVariants.{TooLong, Short, FrameType, Delivery, KeyId}
use Rattle.zb_aps.specs.declared.header.ApsHeader.{ApsHeader}
use Rattle.zb_aps.specs.declared.frame.ApsFrame.{ApsFrame}
use Rattle.zb_aps.specs.Spelling.{header}
use Rattle.zb_aps.specs.Shape.{kind, delivery, key_id, IsHeader, HeaderInRange, IsFrame}
use Rattle.zb_base.specs.Limits.{longest_frame}

-- Some longer bytes with this prefix are a frame, possibly longer than 127.
abbrev pub CanGoOn : List ℕ → Type 0
CanGoOn bytes = (more : List ℕ) × (f : ApsFrame) × IsFrame (bytes ++ more) f

-- The bytes ran out: they aren't a frame, and longer bytes with this prefix can be one.
pub record IsCut (bytes : List ℕ) : Type 0 where
  pub no_frame : (f : ApsFrame) → ¬ IsFrame bytes f
  pub goes_on : CanGoOn bytes

-- The bytes begin with the header of a secured frame, and then with this auxiliary control byte.
pub record IsSecuredBy (bytes : List ℕ) (control : ℕ) (h : ApsHeader) (rest : List ℕ) : Type 0 where
  pub shaped : IsHeader h
  pub in_range : HeaderInRange h
  pub secured : bit h.control 5 ≡ true
  pub parts : bytes ≡ header h ++ (control ∷ rest)

-- what a fault of at most 127 bytes means for them
abbrev pub Explains : List ℕ → ApsError → Type 0
Explains bytes TooLong = ⊥
Explains bytes (Short place) = (place ≡ length bytes) × IsCut bytes
Explains bytes (FrameType found) = (control : ℕ) × (rest : List ℕ) × (bytes ≡ control ∷ rest) × (kind control ≡ found)
    × (found ≡ 3)
Explains bytes (Delivery found) = (control : ℕ) × (rest : List ℕ) × (bytes ≡ control ∷ rest) × (kind control < 3)
    × (delivery control ≡ found) × (found ≡ 1)
Explains bytes (KeyId found) = (control : ℕ) × (h : ApsHeader) × (rest : List ℕ) × IsSecuredBy bytes control h rest
    × (key_id control ≡ found) × (found ≡ 1)

-- The bytes have the fault.
abbrev pub HasFault : List ℕ → ApsError → Type 0
HasFault bytes TooLong = longest_frame < length bytes
HasFault bytes e = (length bytes ≤ longest_frame) × Explains bytes e
