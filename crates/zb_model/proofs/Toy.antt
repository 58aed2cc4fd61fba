-- Tools for computing the model: real frames and commands, and a toy cipher. The cipher leaves the content as it is
-- and takes four bytes of the sealing key as its tag, so frames open under their own key alone.
use Rattle.std.specs.Prelude.{ℕ, ◌+◌, ◌-◌, ◌*◌, ◌/◌, ◌%◌, Bool, true, false, not, if◌then◌else◌, ◌&&◌, ◌||◌, List, [], ◌∷◌, ◌++◌, length, get_or, take, drop, set, Option, Some, None, nat_eq, nat_lt, nat_le, codes}
use Prim.Native.String.{String}
use Rattle.zb_model.specs.Data.{Bytes, Label, ForData, ForNetwork, ForTransport, ForLoad, Layer, Nwk, Aps, Term, Command, TransportNet, TransportApp, TransportLink, UpdateDevice, RemoveDevice, RequestApp, RequestLink, SwitchKey, Tunnel, VerifyKey, ConfirmKey}
use Rattle.zb_model.specs.State.{same_key}
use Rattle.zb_model.specs.Record.{two_bytes, eight_bytes}
use Rattle.zb_model.specs.Tools.{Tools, NwkShown, NwkAuxiliary, ApsShown, ApsAuxiliary, CommandShown, Known, Unknown, Broken, LeaveShown, Leave, Other, NoCommand}

-- hexadecimal digits as bytes
abbrev digit : ℕ → ℕ
digit c = if nat_lt c 58 then c - 48 else c - 55

abbrev pairs_of : List ℕ → Bytes
pairs_of [] = []
pairs_of (a ∷ []) = []
pairs_of (a ∷ b ∷ rest) = (16 * digit a + digit b) ∷ pairs_of rest

abbrev pub x : String → Bytes
x text = pairs_of (codes text)

-- a number of so many bytes, the lowest first
abbrev number : ℕ → Bytes → ℕ
number Rattle.std.specs.Prelude.zero bytes = 0
number (Rattle.std.specs.Prelude.suc n) bytes = get_or bytes 0 0 + 256 * number n (drop 1 bytes)

abbrev number_at : ℕ → ℕ → Bytes → ℕ
number_at at n bytes = number n (drop at bytes)

abbrev byte_at : ℕ → Bytes → ℕ
byte_at at bytes = get_or bytes at 0

abbrev keyed_by : Bytes → ℕ → Bytes
keyed_by key n = (240 + n) ∷ drop 1 key

abbrev seal_key : Label → Bytes → Bytes
seal_key ForTransport key = keyed_by key 0
seal_key ForLoad key = keyed_by key 2
seal_key _ key = key

abbrev tag : Label → Bytes → Bytes
tag label key = take 4 (seal_key label key)

-- the level bits of the auxiliary control go out as 000
abbrev control_place : Layer → ℕ → ℕ
control_place Nwk n = n - 14
control_place Aps n = n - 13

abbrev without_level : Layer → Bytes → Bytes
without_level layer header = set header (control_place layer (length header))
    (8 * (byte_at (control_place layer (length header)) header / 8))

abbrev wire_of : Term → Bytes
wire_of t = without_level t.layer t.header ++ (t.content ++ tag t.label t.base)

-- NWK frames, with their optional fields; an auxiliary header has 14 bytes and comes before the payload
abbrev bit : ℕ → ℕ → ℕ
bit worth n = (n / worth) % 2

abbrev low_bits : Bytes → ℕ
low_bits bytes = byte_at 1 bytes

abbrev nwk_fixed : Bytes → ℕ
nwk_fixed bytes = 8 + (8 * bit 8 (low_bits bytes) + (8 * bit 16 (low_bits bytes) + bit 1 (low_bits bytes)))

abbrev nwk_front : Bytes → ℕ
nwk_front bytes = if nat_eq (bit 4 (low_bits bytes)) 1 then nwk_fixed bytes + 2 + 2 * byte_at (nwk_fixed bytes) bytes
    else nwk_fixed bytes

abbrev nwk_secured : Bytes → Bool
nwk_secured bytes = nat_eq (bit 2 (low_bits bytes)) 1

abbrev nwk_aux : Bytes → Option NwkAuxiliary
nwk_aux bytes =
    let at = nwk_front bytes in
    if nwk_secured bytes
    then Some
    (record {
      counter = number_at (at + 1) 4 bytes;
      source = number_at (at + 5) 8 bytes;
      sequence = byte_at (at + 13) bytes;
    }) else None

abbrev nwk_whole : Bytes → Bool
nwk_whole bytes =
    nat_le (length bytes) 127
    && (nat_le 8 (length bytes) && (nat_lt (byte_at 0 bytes % 4) 2 && (nat_eq ((byte_at 0 bytes / 4) % 16) 2
    && ((nat_eq (bit 4 (low_bits bytes)) 0 || nat_lt (nwk_fixed bytes) (length bytes))
    && (nat_le (nwk_front bytes) (length bytes)
    && (not (nwk_secured bytes) || (nat_le (nwk_front bytes + 18) (length bytes)
    && (nat_eq ((byte_at (nwk_front bytes) bytes / 8) % 4) 1 && nat_eq (bit 32 (byte_at (nwk_front bytes) bytes))
    1))))))))

abbrev nwk_shown : Bytes → Option NwkShown
nwk_shown bytes =
    if nwk_whole bytes
    then Some
    (record {
      is_command = nat_eq (byte_at 0 bytes % 4) 1;
      destination = number_at 2 2 bytes;
      source = number_at 4 2 bytes;
      auxiliary = nwk_aux bytes;
      body = drop (nwk_front bytes) bytes;
    })
    else None

abbrev level_at : ℕ → Bytes → Bytes
level_at place header = set header place (8 * (byte_at place header / 8) + 5)

abbrev nwk_open : Bytes → Bytes → Option Term
nwk_open bytes key =
    let at = nwk_front bytes in
    let header = level_at at (take (at + 14) bytes) in
    if nwk_whole bytes && same_key (drop (length bytes - 4) bytes) (tag ForNetwork key)
    then Some (record {
      layer = Nwk;
      base = key;
      label = ForNetwork;
      source = number_at (at + 5) 8 bytes;
      counter = number_at (at + 1) 4 bytes;
      control = byte_at at header;
      header = header;
      content = take (length bytes - (at + 18)) (drop (at + 14) bytes);
    })
    else None

-- APS frames: a command, an acknowledgement without endpoints, or data with them; an extended header; an auxiliary
-- header of 13 bytes, or of 5 without a source
abbrev is_command : Bytes → Bool
is_command bytes = nat_eq (byte_at 0 bytes % 4) 1

abbrev is_ack : Bytes → Bool
is_ack bytes = nat_eq (byte_at 0 bytes % 4) 2

abbrev aps_fixed : Bytes → ℕ
aps_fixed bytes = if is_command bytes || (is_ack bytes && nat_eq (bit 16 (byte_at 0 bytes)) 1) then 2
    else (if nat_eq ((byte_at 0 bytes / 4) % 4) 3 then 9 else 8)

abbrev has_extended : Bytes → Bool
has_extended bytes = nat_eq (bit 128 (byte_at 0 bytes)) 1

abbrev aps_front : Bytes → ℕ
aps_front bytes =
    if has_extended bytes
    then aps_fixed bytes + 1 + (if nat_eq (byte_at (aps_fixed bytes) bytes % 4) 0 then 0
    else (if is_ack bytes then 2 else 1))
    else aps_fixed bytes

abbrev label_of : ℕ → Label
label_of control = if nat_eq ((control / 8) % 4) 2 then ForTransport
    else (if nat_eq ((control / 8) % 4) 3 then ForLoad else ForData)

abbrev aps_secured : Bytes → Bool
aps_secured bytes = nat_eq (bit 32 (byte_at 0 bytes)) 1

abbrev shows_source : Bytes → Bool
shows_source bytes = nat_eq (bit 32 (byte_at (aps_front bytes) bytes)) 1

abbrev aps_start : Bytes → ℕ
aps_start bytes = if aps_secured bytes then aps_front bytes + (if shows_source bytes then 13 else 5)
    else aps_front bytes

abbrev aps_whole : Bytes → Bool
aps_whole bytes =
    nat_le (length bytes) 127
    && (nat_lt 0 (length bytes) && (nat_lt (byte_at 0 bytes % 4) 3 && (not (nat_eq ((byte_at 0 bytes / 4) % 4) 1)
    && ((not (has_extended bytes) || nat_lt (aps_fixed bytes) (length bytes))
    && (nat_le (aps_start bytes) (length bytes)
    && (not (aps_secured bytes)
    || (nat_le (aps_start bytes + 4) (length bytes)
    && not (nat_eq ((byte_at (aps_front bytes) bytes / 8) % 4) 1))))))))

abbrev source_of : Bytes → Option ℕ
source_of bytes = if shows_source bytes then Some (number_at (aps_front bytes + 5) 8 bytes) else None

abbrev aps_aux : Bytes → Option ApsAuxiliary
aps_aux bytes =
    if aps_secured bytes
    then Some
    (record {
      label = label_of (byte_at (aps_front bytes) bytes);
      counter = number_at (aps_front bytes + 1) 4 bytes;
      source = source_of bytes;
    })
    else None

abbrev aps_shown : Bytes → Option ApsShown
aps_shown bytes =
    if aps_whole bytes
    then Some
    (record { is_command = is_command bytes; auxiliary = aps_aux bytes; body = drop (aps_front bytes) bytes })
    else None

abbrev source_or : ℕ → Option ℕ → ℕ
source_or other None = other
source_or other (Some n) = n

abbrev aps_open : Bytes → Bytes → ℕ → Option Term
aps_open bytes key source =
    let at = aps_front bytes in
    let end_ = aps_start bytes in
    let header = level_at at (take end_ bytes) in
    let label = label_of (byte_at at bytes) in
    if aps_whole bytes && (aps_secured bytes && same_key (drop (length bytes - 4) bytes) (tag label key))
    then Some (record {
      layer = Aps;
      base = key;
      label = label;
      source = source_or source (source_of bytes);
      counter = number_at (at + 1) 4 bytes;
      control = byte_at at header;
      header = header;
      content = take (length bytes - (end_ + 4)) (drop end_ bytes);
    })
    else None

-- commands
abbrev spell : Command → Bytes
spell (TransportNet key sequence destination source) = 0x05 ∷ 0x01 ∷ key
    ++ (sequence ∷ eight_bytes destination ++ eight_bytes source)
spell (TransportApp key partner initiator) = 0x05 ∷ 0x03 ∷ key ++ (eight_bytes partner ++ initiator ∷ [])
spell (TransportLink key destination source) = 0x05 ∷ 0x04 ∷ key ++ (eight_bytes destination ++ eight_bytes source)
spell (UpdateDevice device short status) = 0x06 ∷ eight_bytes device ++ (two_bytes short ++ status ∷ [])
spell (RemoveDevice target) = 0x07 ∷ eight_bytes target
spell (RequestApp partner) = 0x08 ∷ 0x02 ∷ eight_bytes partner
spell RequestLink = 0x08 ∷ 0x04 ∷ []
spell (SwitchKey sequence) = 0x09 ∷ sequence ∷ []
spell (Tunnel destination inner) = 0x0e ∷ eight_bytes destination ++ inner
spell (VerifyKey kind source hash) = 0x0f ∷ kind ∷ eight_bytes source ++ hash
spell (ConfirmKey status kind destination) = 0x10 ∷ status ∷ kind ∷ eight_bytes destination

abbrev of_length : ℕ → Bytes → Command → CommandShown
of_length n bytes command = if nat_eq (length bytes) n then Known command else Broken

abbrev command_of : ℕ → ℕ → Bytes → CommandShown
command_of id kind b =
    if nat_eq id 5 then (
    if nat_eq kind 1
    then of_length 35 b (TransportNet (take 16 (drop 2 b)) (byte_at 18 b) (number_at 19 8 b) (number_at 27 8 b))
    else if nat_eq kind 3 then of_length 27 b (TransportApp (take 16 (drop 2 b)) (number_at 18 8 b) (byte_at 26 b))
    else if nat_eq kind 4
    then of_length 34 b (TransportLink (take 16 (drop 2 b)) (number_at 18 8 b) (number_at 26 8 b))
    else if nat_lt (length b) 2 then Broken else Unknown)
    else if nat_eq id 6 then of_length 12 b (UpdateDevice (number_at 1 8 b) (number_at 9 2 b) (byte_at 11 b))
    else if nat_eq id 7 then of_length 9 b (RemoveDevice (number_at 1 8 b))
    else if nat_eq id 8 then (
    if nat_eq kind 2 then of_length 10 b (RequestApp (number_at 2 8 b))
    else if nat_eq kind 4 then of_length 2 b RequestLink
    else if nat_lt (length b) 2 then Broken else Unknown)
    else if nat_eq id 9 then of_length 2 b (SwitchKey (byte_at 1 b))
    else if nat_eq id 14
    then (if nat_le 28 (length b) && nat_eq (bit 32 (byte_at 11 b)) 1
    then Known (Tunnel (number_at 1 8 b) (drop 9 b)) else Broken)
    else if nat_eq id 15 then of_length 26 b (VerifyKey kind (number_at 2 8 b) (drop 10 b))
    else if nat_eq id 16 then of_length 11 b (ConfirmKey kind (byte_at 2 b) (number_at 3 8 b))
    else Unknown

abbrev command_shown : Bytes → CommandShown
command_shown [] = Broken
command_shown (id ∷ rest) = command_of id (get_or rest 0 0) (id ∷ rest)

abbrev leave_shown : Bytes → LeaveShown
leave_shown [] = NoCommand
leave_shown (id ∷ rest) = if nat_eq id 4 then (if nat_eq (length rest) 1 then Leave (get_or rest 0 0) else NoCommand)
    else Other

unfoldable pub toy : Tools
toy = record {
  wire = wire_of;
  keyed = keyed_by;
  read_nwk = nwk_shown;
  open_nwk = nwk_open;
  read_aps = aps_shown;
  open_aps = aps_open;
  read_command = command_shown;
  spelled = spell;
  read_leave = leave_shown;
}
