-- Reading an APS frame field by field, up to the first fault.
use Rattle.std.specs.Prelude.{ℕ, Bool, true, false, not, ◌&&◌, List, length, Some, None, Result, Ok, Err, [], ◌∷◌, nat_lt, ◌==◌, if◌then◌else◌}
use Rattle.std.specs.Int.{w16, w32}
use Rattle.zb_cursor.specs.Spelling.{bit}
use Rattle.zb_cursor.specs.Reading.{Reading, ◌>>=◌, ◌>>◌, give, insist, all_at, byte_at, number_at, eui_at, optional_at, body_and_mic_at}
use Rattle.zb_aps.specs.declared.fault.ApsError.{ApsError}
use Rattle.zb_aps.specs.declared.fault.ApsError.TheVariants.{TooLong, Short, FrameType, Delivery, KeyId}
use Rattle.zb_aps.specs.declared.header.Extended.{Extended}
use Rattle.zb_aps.specs.declared.header.ApsHeader.{ApsHeader}
use Rattle.zb_aps.specs.declared.auxiliary.ApsAux.{ApsAux}
use Rattle.zb_aps.specs.declared.frame.ApsFrame.{ApsFrame}
use Rattle.zb_aps.specs.Shape.{kind, delivery, is_ack, to_group, is_addressed, is_block, key_id}
use Rattle.zb_base.specs.Limits.{longest_frame}

unfoldable pub control_at : Reading ApsError ℕ
control_at = do
  control ← byte_at
  insist (nat_lt (kind control) 3) (FrameType (kind control))
  insist (not (delivery control == 1)) (Delivery (delivery control))
  give control

unfoldable pub extended_at : Bool → Reading ApsError Extended
extended_at ack = do
  control ← byte_at
  block ← optional_at (is_block control) byte_at
  bits ← optional_at (is_block control && ack) byte_at
  give (record { control = control; block = block; bits = bits })

-- the fields after the control byte
unfoldable pub fields_at : ℕ → Reading ApsError ApsHeader
fields_at control = do
  endpoint ← optional_at (is_addressed control && not (to_group control)) byte_at
  group ← optional_at (is_addressed control && to_group control) (number_at w16)
  cluster ← optional_at (is_addressed control) (number_at w16)
  profile ← optional_at (is_addressed control) (number_at w16)
  source_endpoint ← optional_at (is_addressed control) byte_at
  counter ← byte_at
  extended ← optional_at (bit control 7) (extended_at (is_ack control))
  give (record {
    control = control;
    endpoint = endpoint;
    group = group;
    cluster = cluster;
    profile = profile;
    source_endpoint = source_endpoint;
    counter = counter;
    extended = extended;
  })

unfoldable pub header_at : Reading ApsError ApsHeader
header_at = do
  control ← control_at
  fields_at control

unfoldable pub aux_control_at : Reading ApsError ℕ
aux_control_at = do
  control ← byte_at
  insist (not (key_id control == 1)) (KeyId (key_id control))
  give control

unfoldable pub aux_at : Reading ApsError ApsAux
aux_at = do
  control ← aux_control_at
  counter ← number_at w32
  source ← optional_at (bit control 5) eui_at
  give (record { control = control; counter = counter; source = source })

-- after the header of a secured frame
unfoldable pub secured_at : ApsHeader → Reading ApsError ApsFrame
secured_at header = do
  aux ← aux_at
  sealed ← body_and_mic_at
  give (record { header = header; aux = Some aux; body = record { items = sealed.0 }; mic = sealed.1 })

unfoldable pub unsecured_at : ApsHeader → Reading ApsError ApsFrame
unsecured_at header = do
  body ← all_at
  give (record { header = header; aux = None; body = record { items = body }; mic = 0 ∷ 0 ∷ 0 ∷ 0 ∷ [] })

abbrev pub content_at : Bool → ApsHeader → Reading ApsError ApsFrame
content_at true header = secured_at header
content_at false header = unsecured_at header

unfoldable pub frame_at : Reading ApsError ApsFrame
frame_at = do
  header ← header_at
  content_at (bit header.control 5) header

-- the frame without the bytes left after it, of which there are none
abbrev pub whole : Result (ApsFrame × List ℕ) ApsError → Result ApsFrame ApsError
whole (Ok x) = Ok x.0
whole (Err e) = Err e

-- The frame that takes all of the bytes, or their first fault: more than 127 bytes, or the fault of the first field
-- that isn't whole or not known.
unfoldable pub frame_of : List ℕ → Result ApsFrame ApsError
frame_of bytes =
    if nat_lt longest_frame (length bytes) then Err TooLong else whole (frame_at (Short (length bytes)) bytes)
