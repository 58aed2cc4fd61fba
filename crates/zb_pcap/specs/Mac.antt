-- What a MAC frame of IEEE 802.15.4 holds (5.2 of the edition of 2011), by cases on its control bits.
use Rattle.std.specs.Prelude.{ℕ, ◌+◌, ◌-◌, ◌*◌, ◌/◌, ◌%◌, ◌==◌, ◌&&◌, ◌≤◌, not, nat_lt, nat_le, Bool, if◌then◌else◌, List, length, take, slice_index}
use Rattle.zb_pcap.specs.CheckSequence.{check_sequence}
use Rattle.zb_pcap.specs.declared.mac.Mac.{Mac}
use Rattle.zb_pcap.specs.declared.mac.Mac.TheVariants.{Payload, BadCheck, Other}
use Rattle.zb_base.specs.Limits.{longest_frame}

-- The number of two bytes, low byte first.
abbrev pub number16 : List ℕ → ℕ → ℕ
number16 bytes at = slice_index bytes at + 256 * slice_index bytes (at + 1)

-- The control. Bits 0 to 2: type; 3: security; 6: one network for both addresses; 12 and 13: version. Bits 10 and 11,
-- and 14 and 15: the modes of the destination and of the source.
abbrev pub destination_mode : ℕ → ℕ
destination_mode control = control / 1024 % 4

abbrev pub source_mode : ℕ → ℕ
source_mode control = control / 16384 % 4

-- Whether the control is that of a data frame of version 0 or 1 without security, whose addresses have valid modes.
unfoldable pub is_plain_data : ℕ → Bool
is_plain_data control =
    control % 8 == 1 && control / 8 % 2 == 0 && nat_lt (control / 4096 % 4) 2 && not (destination_mode control == 1)
    && not (source_mode control == 1)

-- No address, a short one, or an extended one.
abbrev pub address_size : ℕ → ℕ
address_size mode = if mode == 0 then 0 else if mode == 2 then 2 else 8

abbrev pub network_size : ℕ → ℕ
network_size mode = if mode == 0 then 0 else 2

-- The source's network is given unless it is that of the destination.
abbrev pub source_network_size : ℕ → ℕ
source_network_size control = if control / 64 % 2 == 1 then 0 else network_size (source_mode control)

-- Control, sequence, and the address fields.
unfoldable pub header_size : ℕ → ℕ
header_size control =
    3 + (network_size (destination_mode control) + address_size (destination_mode control))
    + (source_network_size control + address_size (source_mode control))

-- A packet ends with its check sequence, low byte first, or has none.
abbrev pub body : Bool → List ℕ → List ℕ
body check packet = if check then take (length packet - 2) packet else packet

abbrev pub is_wrong : List ℕ → Bool
is_wrong packet = not (number16 packet (length packet - 2) == check_sequence (take (length packet - 2) packet))

abbrev pub has_wrong_check : Bool → List ℕ → Bool
has_wrong_check check packet = check && nat_le 2 (length packet) && is_wrong packet

-- The payload of a data frame, of at least one byte.
abbrev pub payload_of : List ℕ → Mac
payload_of body =
    let control = number16 body 0 in
    if is_plain_data control && nat_lt (header_size control) (length body)
    then Payload (header_size control) (length body - header_size control)
    else Other

unfoldable pub mac_of : Bool → List ℕ → Mac
mac_of check packet =
    if has_wrong_check check packet then BadCheck
    else if nat_le (length packet) longest_frame then payload_of (body check packet)
    else Other

-- A payload lies within its packet, and is no longer than a packet may be.
abbrev pub IsWithin : Mac → ℕ → Type 0
IsWithin (Payload at len) size = (at + len ≤ size) × (len ≤ longest_frame)
IsWithin BadCheck size = Unit {0}
IsWithin Other size = Unit {0}
