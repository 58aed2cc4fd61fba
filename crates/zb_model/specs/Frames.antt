-- The frames that a node sends, by their fields: headers with their auxiliary headers (05-3474-21, chapters 2 to 4),
-- with the values of this project's profile. Fields are least significant byte first.
use Rattle.std.specs.Prelude.{ℕ, ◌%◌, if◌then◌else◌, [], ◌∷◌, ◌++◌, nat_le}
use Rattle.zb_model.specs.Data.{Bytes, Label, ForData, ForNetwork, ForTransport, ForLoad, Nwk, Aps, Term}
use Rattle.zb_model.specs.Record.{two_bytes, four_bytes, eight_bytes}

abbrev pub low_byte : ℕ → ℕ
low_byte n = n % 256

-- NWK frame control: a data frame, version 2; bit 9 is set if it is secured; a command (Leave) has type 1
abbrev pub plain_frame : ℕ
plain_frame = 0x0008

abbrev pub secured_frame : ℕ
secured_frame = 0x0208

abbrev pub leave_frame : ℕ
leave_frame = 0x0209

-- control, destination, source, radius 30, sequence
abbrev pub nwk_header : ℕ → ℕ → ℕ → ℕ → Bytes
nwk_header control to from sequence = two_bytes control ++ (two_bytes to ++ (two_bytes from ++ 0x1e ∷ sequence ∷ []))

-- The auxiliary control: level 5, the extended nonce, and the key identifier.
abbrev pub nwk_control : ℕ
nwk_control = 0x2d

abbrev pub aps_control : Label → ℕ
aps_control ForTransport = 0x35
aps_control ForLoad = 0x3d
aps_control _ = 0x25

-- the label that an APS term has: network keys seal at NWK alone
abbrev pub aps_label : Label → Label
aps_label ForNetwork = ForData
aps_label label = label

abbrev pub nwk_auxiliary : ℕ → ℕ → ℕ → Bytes
nwk_auxiliary counter source sequence = nwk_control ∷ four_bytes counter ++ (eight_bytes source ++ sequence ∷ [])

abbrev pub aps_auxiliary : Label → ℕ → ℕ → Bytes
aps_auxiliary label counter source = aps_control label ∷ four_bytes counter ++ eight_bytes source

-- A secured NWK frame of a node: its sequence byte is the low byte of its counter.
abbrev pub nwk_term : ℕ → ℕ → ℕ → ℕ → Bytes → ℕ → ℕ → Bytes → Term
nwk_term control to from source key sequence counter content = record {
  layer = Nwk;
  base = key;
  label = ForNetwork;
  source = source;
  counter = counter;
  control = nwk_control;
  header = nwk_header control to from (low_byte counter) ++ nwk_auxiliary counter source sequence;
  content = content;
}

-- A sealed APS frame: `prefix` is its header up to its APS counter, which is the low byte of the frame counter.
abbrev pub aps_term : Bytes → Label → Bytes → ℕ → ℕ → Bytes → Term
aps_term front label key source counter content = record {
  layer = Aps;
  base = key;
  label = aps_label label;
  source = source;
  counter = counter;
  control = aps_control label;
  header = front ++ low_byte counter ∷ aps_auxiliary label counter source;
  content = content;
}

-- APS frame control: a command, sealed and not sealed; to all (Switch-Key); application data, sealed
abbrev pub sealed_command : Bytes
sealed_command = 0x21 ∷ []

abbrev pub clear_command : ℕ
clear_command = 0x01

abbrev pub clear_broadcast : ℕ
clear_broadcast = 0x09

-- The header of application data up to its APS counter: control (delivery by broadcast from FFF8 up), endpoint 1,
-- cluster 0, profile 0104, source endpoint 1.
abbrev pub data_front : ℕ → Bytes
data_front control = control ∷ 0x01 ∷ 0x00 ∷ 0x00 ∷ 0x04 ∷ 0x01 ∷ 0x01 ∷ []

abbrev pub data_control : ℕ → ℕ
data_control to = if nat_le 0xfff8 to then 0x08 else 0x00

abbrev pub sealed_data : ℕ
sealed_data = 0x20

-- the payload of a Leave that asks a node to leave: options 40
abbrev pub leave_payload : Bytes
leave_payload = 0x04 ∷ 0x40 ∷ []

abbrev pub to_all : ℕ
to_all = 0xffff
