-- Capture files (pcap, in this project's profile): a header of 24 bytes, and records of 16 bytes and a packet.
use Rattle.std.specs.Prelude.{◌^◌, ℕ, zero, suc, ◌+◌, ◌-◌, ◌%◌, ◌==◌, ◌&&◌, ◌||◌, not, nat_le, nat_lt, Bool, true, false, if◌then◌else◌, List, [], ◌∷◌, length, take, drop, slice_index, bytes_eq, Option, Some, None, Result, Ok, Err}
use Rattle.std.specs.Int.{w16, w32, from_be_bytes, from_le_bytes}
use Rattle.zb_pcap.specs.declared.fault.PcapCause.{PcapCause}
use Rattle.zb_pcap.specs.declared.fault.PcapCause.TheVariants.{Magic, Version, Link, Cut, TooMany}
use Rattle.zb_pcap.specs.declared.fault.PcapError.{PcapError}
use Rattle.zb_pcap.specs.declared.header.Form.{Form}
use Rattle.zb_pcap.specs.declared.header.Order.{Order}
use Rattle.zb_pcap.specs.declared.header.Order.TheVariants.{Big, Little}

-- Numbers in the byte order of a file.
abbrev pub bytes16 : List ℕ → ℕ → List ℕ
bytes16 bytes at = slice_index bytes at ∷ slice_index bytes (at + 1) ∷ []

abbrev pub bytes32 : List ℕ → ℕ → List ℕ
bytes32 bytes at = slice_index bytes at ∷ slice_index bytes (at + 1) ∷ slice_index bytes (at + 2)
    ∷ slice_index bytes (at + 3) ∷ []

abbrev pub number16_at : Order → List ℕ → ℕ → ℕ
number16_at Big bytes at = from_be_bytes w16 (bytes16 bytes at)
number16_at Little bytes at = from_le_bytes w16 (bytes16 bytes at)

abbrev pub number32_at : Order → List ℕ → ℕ → ℕ
number32_at Big bytes at = from_be_bytes w32 (bytes32 bytes at)
number32_at Little bytes at = from_le_bytes w32 (bytes32 bytes at)

-- A1B2C3D4 for times in microseconds and A1B23C4D for nanoseconds, in the byte order of the file.
abbrev pub order_of : List ℕ → Option Order
order_of magic =
    if bytes_eq magic (0xa1 ∷ 0xb2 ∷ 0xc3 ∷ 0xd4 ∷ []) || bytes_eq magic (0xa1 ∷ 0xb2 ∷ 0x3c ∷ 0x4d ∷ []) then Some Big
    else if bytes_eq magic (0xd4 ∷ 0xc3 ∷ 0xb2 ∷ 0xa1 ∷ []) || bytes_eq magic (0x4d ∷ 0x3c ∷ 0xb2 ∷ 0xa1 ∷ [])
    then Some Little
    else None

-- The link types of IEEE 802.15.4, with check sequences and without.
abbrev pub with_check_sequences : ℕ
with_check_sequences = 195

abbrev pub without_check_sequences : ℕ
without_check_sequences = 230

-- Whether there are check sequences, by the low 16 bits of the link type.
abbrev pub link_of : ℕ → Option Bool
link_of link =
    if link % 2 ^ 16 == with_check_sequences then Some true
    else if link % 2 ^ 16 == without_check_sequences then Some false
    else None

abbrev pub form_of : Order → Option Bool → Result Form PcapCause
form_of order None = Err Link
form_of order (Some check) = Ok (record { order = order; check = check })

-- The number of bytes before the first record.
abbrev pub file_header_size : ℕ
file_header_size = 24

-- Version 2.4.
abbrev pub form_in : List ℕ → Option Order → Result Form PcapCause
form_in bytes None = Err Magic
form_in bytes (Some order) =
    if number16_at order bytes 4 == 2 && number16_at order bytes 6 == 4
    then form_of order (link_of (number32_at order bytes 20)) else Err Version

-- What the header says, or its first fault.
unfoldable pub header_of : List ℕ → Result Form PcapCause
header_of bytes = if nat_lt (length bytes) file_header_size then Err Magic else form_in bytes (order_of (take 4 bytes))

-- A packet, and whether it was cut when it was caught.
abbrev pub Record : Type 0
Record = List ℕ × Bool

-- Seconds 4, fraction 4, kept length 4, whole length 4, and the kept bytes; and what comes after a whole record.
unfoldable pub record_of : Order → List ℕ → Option (Record × List ℕ)
record_of order bytes =
    let kept = number32_at order bytes 8 in
    if nat_le 16 (length bytes) && nat_le kept (length bytes - 16) then
    Some ((take kept (drop 16 bytes), not (number32_at order bytes 12 == kept)), drop kept (drop 16 bytes))
    else None

abbrev pub fault_at : ℕ → PcapCause → PcapError
fault_at place cause = record { place = place; cause = cause }

-- A record that is one too many, unless it isn't whole.
abbrev pub beyond : ℕ → Option (Record × List ℕ) → Result (List Record) PcapError
beyond place None = Err (fault_at place Cut)
beyond place (Some one) = Err (fault_at place TooMany)

abbrev pub behind : Record → Result (List Record) PcapError → Result (List Record) PcapError
behind one (Ok more) = Ok (one ∷ more)
behind one (Err e) = Err e

abbrev pub with_record : ℕ → Option (Record × List ℕ) → (List ℕ → Result (List Record) PcapError)
    → Result (List Record) PcapError
with_record place None rest = Err (fault_at place Cut)
with_record place (Some one) rest = behind one.0 (rest one.1)

-- At most `left` records, of which the first has the number `place`; or the first that isn't whole or is one too
-- many.
unfoldable pub records : ℕ → ℕ → Order → List ℕ → Result (List Record) PcapError
records left place order [] = Ok []
records zero place order (byte ∷ more) = beyond place (record_of order (byte ∷ more))
records (suc left) place order (byte ∷ more) = with_record place (record_of order (byte ∷ more))
    (records left (place + 1) order)
