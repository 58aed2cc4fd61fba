-- Reading a NWK frame field by field, up to the first fault.
use Rattle.std.specs.Prelude.{ℕ, Bool, true, false, List, length, Some, None, Result, Ok, Err, [], ◌∷◌, nat_lt, ◌==◌, if◌then◌else◌}
use Rattle.std.specs.Int.{w16, w32}
use Rattle.zb_cursor.specs.Spelling.{bit}
use Rattle.zb_cursor.specs.Reading.{Reading, ◌>>=◌, ◌>>◌, give, insist, all_at, byte_at, number_at, short_at, eui_at, optional_at, times_at, body_and_mic_at}
use Rattle.zb_nwk.specs.declared.fault.NwkError.{NwkError}
use Rattle.zb_nwk.specs.declared.fault.NwkError.TheVariants.{TooLong, Short, FrameType, Version, KeyId, NoSource}
use Rattle.zb_nwk.specs.declared.header.Route.{Route}
use Rattle.zb_nwk.specs.declared.header.NwkHeader.{NwkHeader}
use Rattle.zb_nwk.specs.declared.auxiliary.NwkAux.{NwkAux}
use Rattle.zb_nwk.specs.declared.frame.NwkFrame.{NwkFrame}
use Rattle.zb_nwk.specs.Shape.{kind, version, key_id}
use Rattle.zb_base.specs.Limits.{longest_frame}

unfoldable pub control_at : Reading NwkError ℕ
control_at = do
  control ← number_at w16
  insist (nat_lt (kind control) 2) (FrameType (kind control))
  insist (version control == 2) (Version (version control))
  give control

unfoldable pub route_at : Reading NwkError Route
route_at = do
  number ← byte_at
  index ← byte_at
  relays ← times_at short_at number
  give (record { index = index; relays = record { items = relays } })

-- the fields after the control word
unfoldable pub fields_at : ℕ → Reading NwkError NwkHeader
fields_at control = do
  destination ← short_at
  source ← short_at
  radius ← byte_at
  sequence ← byte_at
  destination_eui ← optional_at (bit control 11) eui_at
  source_eui ← optional_at (bit control 12) eui_at
  multicast ← optional_at (bit control 8) byte_at
  route ← optional_at (bit control 10) route_at
  give (record {
    control = control;
    destination = destination;
    source = source;
    radius = radius;
    sequence = sequence;
    destination_eui = destination_eui;
    source_eui = source_eui;
    multicast = multicast;
    route = route;
  })

unfoldable pub header_at : Reading NwkError NwkHeader
header_at = do
  control ← control_at
  fields_at control

unfoldable pub aux_control_at : Reading NwkError ℕ
aux_control_at = do
  control ← byte_at
  insist (key_id control == 1) (KeyId (key_id control))
  insist (bit control 5) NoSource
  give control

unfoldable pub aux_at : Reading NwkError NwkAux
aux_at = do
  control ← aux_control_at
  counter ← number_at w32
  source ← eui_at
  key_sequence ← byte_at
  give (record { control = control; counter = counter; source = source; key_sequence = key_sequence })

-- after the header of a secured frame
unfoldable pub secured_at : NwkHeader → Reading NwkError NwkFrame
secured_at header = do
  aux ← aux_at
  sealed ← body_and_mic_at
  give (record { header = header; aux = Some aux; body = record { items = sealed.0 }; mic = sealed.1 })

unfoldable pub unsecured_at : NwkHeader → Reading NwkError NwkFrame
unsecured_at header = do
  body ← all_at
  give (record { header = header; aux = None; body = record { items = body }; mic = 0 ∷ 0 ∷ 0 ∷ 0 ∷ [] })

abbrev pub content_at : Bool → NwkHeader → Reading NwkError NwkFrame
content_at true header = secured_at header
content_at false header = unsecured_at header

unfoldable pub frame_at : Reading NwkError NwkFrame
frame_at = do
  header ← header_at
  content_at (bit header.control 9) header

-- the frame without the bytes left after it, of which there are none
abbrev pub whole : Result (NwkFrame × List ℕ) NwkError → Result NwkFrame NwkError
whole (Ok x) = Ok x.0
whole (Err e) = Err e

-- The frame that takes all of the bytes, or their first fault: more than 127 bytes, or the fault of the first field
-- that isn't whole or not known.
unfoldable pub frame_of : List ℕ → Result NwkFrame NwkError
frame_of bytes =
    if nat_lt longest_frame (length bytes) then Err TooLong else whole (frame_at (Short (length bytes)) bytes)
