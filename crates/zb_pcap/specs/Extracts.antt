-- The frames of a capture file.
use denote.Ref.{Bor}
use Rattle.std.specs.Prelude.{◌≡◌, ℕ, ◌+◌, Bool, Option, Some, None, if◌then◌else◌, List, [], ◌∷◌, ◌++◌, length, take, drop, Result, Ok, Err}
use Rattle.arrayvec.specs.ArrayVec.{ArrayVec}
use Rattle.zb_base.specs.declared.key.Key.{Key}
use Rattle.zb_base.specs.declared.fault.OrMemory.{OrMemory}
use Rattle.zb_base.specs.declared.fault.OrMemory.TheVariants as error
use Rattle.zb_pcap.specs.Files.{Record, header_of, records, fault_at, file_header_size}
use Rattle.zb_pcap.specs.Mac.{mac_of}
use Rattle.zb_pcap.specs.declared.extraction.Extraction.{Extraction}
use Rattle.zb_pcap.specs.declared.fault.PcapCause.{PcapCause}
use Rattle.zb_pcap.specs.declared.fault.PcapError.{PcapError}
use Rattle.zb_pcap.specs.declared.header.Form.{Form}
use Rattle.zb_pcap.specs.declared.mac.Mac.{Mac}
use Rattle.zb_pcap.specs.declared.mac.Mac.TheVariants.{Payload, BadCheck, Other}
use Rattle.zb_pcap.specs.declared.packets.Packet.{Packet}
use Rattle.zb_base.specs.Limits.{most_frames}

-- A packet as a record of its file.
abbrev pub record_in : Packet → Record
record_in packet = (packet.bytes.now, packet.cut)

-- A packet that was cut isn't checked further.
unfoldable pub verdict : Bool → Record → Mac
verdict check packet = if packet.1 then Other else mac_of check packet.0

abbrev pub frames_of : List ℕ → Mac → List (ArrayVec ℕ)
frames_of packet (Payload at len) = record { items = take len (drop at packet) } ∷ []
frames_of packet BadCheck = []
frames_of packet Other = []

abbrev pub bad_of : Mac → ℕ
bad_of (Payload at len) = 0
bad_of BadCheck = 1
bad_of Other = 0

abbrev pub other_of : Mac → ℕ
other_of (Payload at len) = 0
other_of BadCheck = 0
other_of Other = 1

-- The payloads of data frames in order, how many packets have a wrong check sequence, and how many are neither.
abbrev pub frames_in : Bool → List Record → List (ArrayVec ℕ)
frames_in check [] = []
frames_in check (packet ∷ more) = frames_of packet.0 (verdict check packet) ++ frames_in check more

abbrev pub bad_in : Bool → List Record → ℕ
bad_in check [] = 0
bad_in check (packet ∷ more) = bad_of (verdict check packet) + bad_in check more

abbrev pub other_in : Bool → List Record → ℕ
other_in check [] = 0
other_in check (packet ∷ more) = other_of (verdict check packet) + other_in check more

abbrev pub extract_of : List Key → Bool → List Record → Extraction
extract_of keys check packets = record {
  capture = record { keys = keys; addrs = []; frames = frames_in check packets };
  counts = record { packets = length packets; bad_check = bad_in check packets; other = other_in check packets };
}

abbrev pub extract_packets : List Key → Bool → Result (List Record) PcapError → Result Extraction PcapError
extract_packets keys check (Err e) = Err e
extract_packets keys check (Ok packets) = Ok (extract_of keys check packets)

abbrev pub extract_form : List Key → List ℕ → Result Form PcapCause → Result Extraction PcapError
extract_form keys bytes (Err cause) = Err (fault_at 0 cause)
extract_form keys bytes (Ok form) =
    extract_packets keys form.check (records most_frames 1 form.order (drop file_header_size bytes))

-- What a capture file gives under some keys, or its first fault. At most 100,000 records are read.
unfoldable pub extracted : List Key → List ℕ → Result Extraction PcapError
extracted keys bytes = extract_form keys bytes (header_of bytes)

-- An answer is the expected one. If memory runs out, this says nothing.
abbrev pub Answers : {T U E : Type 0} → (T → U) → Result T (OrMemory E) → Result U E → Type 0
Answers view (Ok value) expected = expected ≡ Ok (view value)
Answers view (Err (error.Fault fault)) expected = expected ≡ Err fault
Answers view (Err error.NoMemory) expected = Unit {0}

-- A record that was taken off, and the bytes after it, are the expected ones.
abbrev pub Takes : Option (Packet × Bor (List ℕ)) → Option (Record × List ℕ) → Type 0
Takes None expected = expected ≡ None
Takes (Some taken) expected = expected ≡ Some (record_in taken.0, taken.1.now)
