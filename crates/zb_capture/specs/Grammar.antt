-- Captures (this project's profile): texts of lines, which are words. Empty lines and lines that begin with # are
-- skipped.
use Rattle.std.specs.Prelude.{ℕ, ◌+◌, ◌%◌, ◌==◌, ◌≤◌, ◌++◌, ◌&&◌, ◌||◌, nat_eq, nat_lt, Bool, true, if◌then◌else◌, List, [], ◌∷◌, length, codes, bytes_eq, Option, Some, None, Result, Ok, Err, option_and_then}
use Rattle.arrayvec.specs.ArrayVec.{ArrayVec}
use Rattle.std.specs.Char.{is_ascii_hexdigit}
use Rattle.std.specs.List.{list_all, list_any}
use Rattle.std.specs.Str.Lines.{lines}
use Rattle.zb_base.specs.declared.address.Eui.{Eui}
use Rattle.zb_base.specs.declared.address.Short.{Short}
use Rattle.zb_base.specs.declared.key.Key.{Key}
use Rattle.zb_capture.specs.declared.capture.Capture.{Capture}
use Rattle.zb_capture.specs.declared.fault.CaptureCause.{CaptureCause}
use Rattle.zb_capture.specs.declared.fault.CaptureCause.TheVariants.{Syntax, BadCode, TooMany, AddressTaken}
use Rattle.zb_capture.specs.declared.fault.CaptureError.{CaptureError}
use Rattle.zb_install.specs.Code.{code_of, code_key, longest_code}
use Rattle.zb_install.specs.declared.code_error.CodeError.{CodeError}
use Rattle.zb_text.specs.Fields.{eui_of, short_of, key_of}
use Rattle.zb_text.specs.Hexadecimal.{bytes_of}
use Rattle.zb_text.specs.Words.{words, field, nothing}
use Rattle.zb_base.specs.Limits.{most_frames, longest_frame, broadcast_eui, most_keys}

-- One step, and then one that depends on its result.
infixl 10 ◌>>=◌
abbrev pub ◌>>=◌ : {A B : Type 0} → Option A → (A → Option B) → Option B
step >>= next = option_and_then next step

-- What the words of a line after the first one give

-- KEY
unfoldable pub key_in : List (List ℕ) → Option Key
key_in line = do
  key ← field key_of line
  end ← nothing key.1
  Some (record { 0 = key.0 })

-- A string of bytes: `-` for none, or two hexadecimal digits each.
abbrev pub is_hex : List ℕ → Bool
is_hex word = bytes_eq word (codes "-")
    || (nat_lt 0 (length word) && length word % 2 == 0 && list_all is_ascii_hexdigit word)

abbrev pub hex_in : List ℕ → Option (List ℕ)
hex_in word = if is_hex word then Some word else None

abbrev pub key_given : Result (List ℕ) CodeError → Option Key
key_given (Err fault) = None
key_given (Ok code) = Some (record { 0 = code_key code })

-- The link key of the install code that a string of bytes is. A code and its CRC have at most 18 bytes.
abbrev pub link_key_of : List ℕ → Option Key
link_key_of word = bytes_of longest_code word >>= (λ bytes. key_given (code_of bytes))

-- HEX, and the link key if it is a code.
unfoldable pub code_in : List (List ℕ) → Option (Option Key)
code_in line = do
  word ← field hex_in line
  end ← nothing word.1
  Some (link_key_of word.0)

-- Whether an EUI may be that of a node: its bits are not all 0 and not all 1.
abbrev pub is_address : ℕ → Bool
is_address eui = nat_lt 0 eui && nat_lt eui broadcast_eui

abbrev pub pair_of : ℕ → ℕ → Short × Eui
pair_of short eui = (record { 0 = short }, record { 0 = eui })

-- SHORT EUI
unfoldable pub addr_in : List (List ℕ) → Option (Short × Eui)
addr_in line = do
  short ← field short_of line
  eui ← field eui_of short.1
  end ← nothing eui.1
  if is_address eui.0 then Some (pair_of short.0 eui.0) else None

-- HEX of 1 to 127 bytes
unfoldable pub frame_in : List (List ℕ) → Option (ArrayVec ℕ)
frame_in line = do
  bytes ← field (bytes_of longest_frame) line
  end ← nothing bytes.1
  if length bytes.0 == 0 then None else Some (record { items = bytes.0 })

-- One line after the other

-- A given key, of at most 256.
abbrev pub with_key : Capture → Option Key → Result Capture CaptureCause
with_key c None = Err Syntax
with_key c (Some key) =
    if nat_lt (length c.keys) most_keys then Ok (record c { keys = c.keys ++ key ∷ [] }) else Err TooMany

-- The link key of a given code.
abbrev pub with_code : Capture → Option (Option Key) → Result Capture CaptureCause
with_code c None = Err Syntax
with_code c (Some None) = Err BadCode
with_code c (Some (Some key)) = with_key c (Some key)

abbrev pub has_short : Short → Short × Eui → Bool
has_short short addr = nat_eq addr.0.0 short.0

-- An address that no earlier line has.
abbrev pub with_addr : Capture → Option (Short × Eui) → Result Capture CaptureCause
with_addr c None = Err Syntax
with_addr c (Some addr) =
    if list_any (has_short addr.0) c.addrs then Err AddressTaken else Ok (record c { addrs = c.addrs ++ addr ∷ [] })

-- A frame, of at most 100,000.
abbrev pub with_frame : Capture → Option (ArrayVec ℕ) → Result Capture CaptureCause
with_frame c None = Err Syntax
with_frame c (Some frame) =
    if nat_lt (length c.frames) most_frames then Ok (record c { frames = c.frames ++ frame ∷ [] }) else Err TooMany

abbrev pub with_words : Capture → List (List ℕ) → Result Capture CaptureCause
with_words c [] = Err Syntax
with_words c (kind ∷ more) =
    if bytes_eq kind (codes "frame") then with_frame c (frame_in more)
    else if bytes_eq kind (codes "key") then with_key c (key_in more)
    else if bytes_eq kind (codes "code") then with_code c (code_in more)
    else if bytes_eq kind (codes "addr") then with_addr c (addr_in more)
    else Err Syntax

abbrev pub is_skipped : List ℕ → Bool
is_skipped [] = true
is_skipped (byte ∷ more) = nat_eq byte 35

unfoldable pub with_line : Capture → List ℕ → Result Capture CaptureCause
with_line c line = if is_skipped line then Ok c else with_words c (words (Some line))

-- The result of a line with its number, and then that of the lines after it.
abbrev pub at_line : ℕ → Result Capture CaptureCause → (Capture → Result Capture CaptureError)
    → Result Capture CaptureError
at_line number (Err cause) after = Err (record { line = number; cause = cause })
at_line number (Ok c) after = after c

abbrev pub with_lines : ℕ → Capture → List (List ℕ) → Result Capture CaptureError
with_lines number c [] = Ok c
with_lines number c (line ∷ more) = at_line number (with_line c line) (λ next. with_lines (number + 1) next more)

abbrev pub empty : Capture
empty = record { keys = []; addrs = []; frames = [] }

-- The capture that a text is, or its first bad line, from 1, with the first cause.
unfoldable pub captured : List ℕ → Result Capture CaptureError
captured bytes = with_lines 1 empty (lines bytes)

-- The limits of a capture.
pub record IsCapture (c : Capture) : Type 0 where
  pub keys : length c.keys ≤ most_keys
  pub frames : length c.frames ≤ most_frames
