-- Reading fields from the start of bytes. A reading is given the fault that it returns for a missing byte.
use Rattle.std.specs.Prelude.{◌≡◌, ℕ, zero, suc, ◌-◌, Bool, true, false, List, [], ◌∷◌, length, take, drop, Option, Some, None, Result, Ok, Err, nat_lt, if◌then◌else◌}
use Rattle.std.specs.Int.{Width, w16, w64, byte_len, from_le_bytes}
use Rattle.zb_base.specs.declared.address.Eui.{Eui}
use Rattle.zb_base.specs.declared.address.Short.{Short}
use Rattle.zb_base.specs.declared.key.Key.{Key}

-- the field at the start and the bytes after it, or a fault
abbrev pub Reading : Type 0 → Type 0 → Type 0
Reading E A = E → List ℕ → Result (A × List ℕ) E

-- continues with what was read
abbrev pub follow : {E A B : Type 0} → Result (A × List ℕ) E → (A → List ℕ → Result (B × List ℕ) E)
    → Result (B × List ℕ) E
follow (Ok x) next = next x.0 x.1
follow (Err e) next = Err e

-- one field and then what depends on it
infixl 10 ◌>>=◌
abbrev pub ◌>>=◌ : {E A B : Type 0} → Reading E A → (A → Reading E B) → Reading E B
(first >>= next) cut bytes = follow (first cut bytes) (λ x rest. next x cut rest)

infixl 10 ◌>>◌
abbrev pub ◌>>◌ : {E A B : Type 0} → Reading E A → Reading E B → Reading E B
(first >> next) cut bytes = follow (first cut bytes) (λ x rest. next cut rest)

-- no byte is read
abbrev pub give : {E A : Type 0} → A → Reading E A
give x cut bytes = Ok (x, bytes)

-- no byte is read; if the test fails, the result is this fault
abbrev pub insist : {E : Type 0} → Bool → E → Reading E (Unit {0})
insist test fault cut bytes = if test then Ok (tt, bytes) else Err fault

abbrev pub byte_at : {E : Type 0} → Reading E ℕ
byte_at cut [] = Err cut
byte_at cut (b ∷ rest) = Ok (b, rest)

-- all bytes that are left
abbrev pub all_at : {E : Type 0} → Reading E (List ℕ)
all_at cut bytes = Ok (bytes, [])

-- all bytes that are left: a body, and after it a MIC of 4 bytes
unfoldable pub body_and_mic_at : {E : Type 0} → Reading E (List ℕ × List ℕ)
body_and_mic_at cut bytes = if nat_lt (length bytes) 4 then Err cut
    else Ok ((take (length bytes - 4) bytes, drop (length bytes - 4) bytes), [])

-- the next n bytes
unfoldable pub bytes_at : {E : Type 0} → ℕ → Reading E (List ℕ)
bytes_at n cut bytes = if nat_lt (length bytes) n then Err cut else Ok (take n bytes, drop n bytes)

unfoldable pub number_at : {E : Type 0} → Width → Reading E ℕ
number_at w cut bytes = if nat_lt (length bytes) (byte_len w) then Err cut
    else Ok (from_le_bytes w (take (byte_len w) bytes), drop (byte_len w) bytes)

unfoldable pub short_at : {E : Type 0} → Reading E Short
short_at cut bytes = follow (number_at w16 cut bytes) (λ n rest. Ok (record { 0 = n }, rest))

unfoldable pub eui_at : {E : Type 0} → Reading E Eui
eui_at cut bytes = follow (number_at w64 cut bytes) (λ n rest. Ok (record { 0 = n }, rest))

unfoldable pub key_at : {E : Type 0} → Reading E Key
key_at cut bytes = follow (bytes_at 16 cut bytes) (λ xs rest. Ok (record { 0 = xs }, rest))

-- a field that is read only if it is present
abbrev pub optional_at : {E A : Type 0} → Bool → Reading E A → Reading E (Option A)
optional_at false read cut bytes = Ok (None, bytes)
optional_at true read cut bytes = follow (read cut bytes) (λ x rest. Ok (Some x, rest))

-- that many fields, one after the other
unfoldable pub times_at : {E A : Type 0} → Reading E A → ℕ → Reading E (List A)
times_at read zero cut bytes = Ok ([], bytes)
times_at read (suc n) cut bytes =
    follow (read cut bytes) (λ x rest. follow (times_at read n cut rest) (λ xs end. Ok (x ∷ xs, end)))

-- What a call returned and left in its reader is the result of the reading.
abbrev pub Gives : {E A : Type 0} → Result A E → List ℕ → Result (A × List ℕ) E → Type 0
Gives (Ok x) rest read = read ≡ Ok (x, rest)
Gives (Err e) rest read = read ≡ Err e

-- The same for a result that is seen by view.
abbrev pub GivesBy : {E A B : Type 0} → (A → B) → Result A E → List ℕ → Result (B × List ℕ) E → Type 0
GivesBy view (Ok x) rest read = read ≡ Ok (view x, rest)
GivesBy view (Err e) rest read = read ≡ Err e

-- what was read into a place, or the fault
abbrev pub read_into : {E A : Type 0} → Result Unit E → A → Result A E
read_into (Ok done) place = Ok place
read_into (Err e) place = Err e

-- nothing here is a field
abbrev pub refuse : {E A : Type 0} → E → Reading E A
refuse fault cut bytes = Err fault
