-- The numbers that the calls return: 0 for success, and else what was wrong first.
use Rattle.std.specs.Prelude.{ℕ, ◌==◌, List, Option, Some, None, Result, Ok, Err, length, nat_le, if◌then◌else◌}
use Rattle.zb_base.specs.Limits.{longest_frame}
use Rattle.zb_base.specs.declared.key.Key.{Key}
use Rattle.zb_install.specs.Code.{code_of}
use Rattle.zb_install.specs.declared.code_error.CodeError.{CodeError}
use Rattle.zb_install.specs.declared.code_error.CodeError.TheVariants.{NotHex, Length, Crc}
use Rattle.zb_seal.specs.Wire.{wire}
use Rattle.zb_seal.specs.declared.envelope.OpenError.{OpenError}
use Rattle.zb_seal.specs.declared.envelope.OpenError.TheVariants.{Frame, NotSecured, NoSource, BadMic}
use Rattle.zb_seal.specs.declared.term.Term.{Term}
use Rattle.zb_mmo.specs.Keyed.{longest_keyed}

-- ---- Numbers of all calls: a buffer of the wrong length, a key that doesn't have 16 bytes

abbrev pub wrong_room : ℕ
wrong_room = 5

abbrev pub wrong_key : ℕ
wrong_key = 6

-- The key of 16 bytes.
abbrev pub key_of : List ℕ → Option Key
key_of bytes = if length bytes == 16 then Some (record { 0 = bytes }) else None

-- ---- Install codes: 1 if no code has that length, 2 if the CRC is wrong

abbrev pub code_number : Result (List ℕ) CodeError → ℕ
code_number (Ok code) = 0
code_number (Err (NotHex at)) = 1
code_number (Err (Length len)) = 1
code_number (Err (Crc kept found)) = 2

abbrev pub link_key_number : List ℕ → ℕ → ℕ
link_key_number code room = if room == 16 then code_number (code_of code) else wrong_room

-- ---- Keyed hashes: 1 if the message is longer than the hash takes with a key before it

abbrev pub keyed_number : (key message room : ℕ) → ℕ
keyed_number key message room =
    if key == 16 then (if room == 16 then (if nat_le message longest_keyed then 0 else 1) else wrong_room)
    else wrong_key

-- ---- Opening: 1 not a frame, 2 not secured, 3 no source, 4 a MIC that isn't that of a content under the key

abbrev pub open_number : Result Term OpenError → ℕ
open_number (Ok term) = 0
open_number (Err (Frame nwk aps)) = 1
open_number (Err NotSecured) = 2
open_number (Err NoSource) = 3
open_number (Err BadMic) = 4

-- The key of 16 bytes is checked first, and then the room for the longest frame.
abbrev pub with_room : ℕ → ℕ → ℕ
with_room room number = if nat_le longest_frame room then number else wrong_room

abbrev pub with_key : Option Key → (Key → ℕ) → ℕ
with_key None number = wrong_key
with_key (Some key) number = number key

-- ---- Sealing: as for opening, and 7 if the sealed frame would be longer than a frame

abbrev pub too_long : ℕ
too_long = 7

abbrev pub sealed_number : Result Term OpenError → ℕ
sealed_number (Ok term) = if nat_le (length (wire term)) longest_frame then 0 else too_long
sealed_number (Err fault) = open_number (Err fault)
