-- How a field is spelled as bytes. A field of several bytes is least significant byte first (05-3474-21, 1.2.1.3).
use Rattle.std.specs.Prelude.{ℕ, List, [], ◌∷◌, Option, Some, None, Bool, ◌==◌, ◌<◌, ◌^◌, slice_index}
use Rattle.std.specs.Int.{Width, w16, w64, to_le_bytes, bit_at}
use Rattle.zb_base.specs.declared.address.Eui.{Eui}
use Rattle.zb_base.specs.declared.address.Short.{Short}
use Rattle.zb_base.specs.declared.key.Key.{Key}

abbrev pub byte : ℕ → List ℕ
byte n = n ∷ []

-- a number of 2, 4 or 8 bytes, low byte first
abbrev pub number : Width → ℕ → List ℕ
number w n = to_le_bytes w n

abbrev pub short : Short → List ℕ
short s = number w16 s.0

abbrev pub eui : Eui → List ℕ
eui e = number w64 e.0

-- a key is in the order of its bytes
abbrev pub key : Key → List ℕ
key k = k.0

-- an absent field has no bytes
abbrev pub optional : {A : Type 0} → (A → List ℕ) → Option A → List ℕ
optional spell None = []
optional spell (Some x) = spell x

-- whether a bit of a control field is 1, counted from the lowest, which is 0
abbrev pub bit : ℕ → ℕ → Bool
bit n place = bit_at n place == 1

-- each item is a byte
abbrev pub IsBytes : List ℕ → Type 0
IsBytes bytes = (i : ℕ) → slice_index bytes i < 2 ^ 8
