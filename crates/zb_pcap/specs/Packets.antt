-- A capture file as it is: its packets, or its first fault.
use Rattle.std.specs.Prelude.{ℕ, Bool, List, map, drop, Result, Ok, Err}
use Rattle.zb_pcap.specs.Files.{Record, header_of, records, fault_at, file_header_size}
use Rattle.zb_pcap.specs.declared.fault.PcapCause.{PcapCause}
use Rattle.zb_pcap.specs.declared.fault.PcapError.{PcapError}
use Rattle.zb_pcap.specs.declared.header.Form.{Form}
use Rattle.zb_pcap.specs.declared.pcap.Pcap.{Pcap}
use Rattle.zb_base.specs.Limits.{most_frames}

-- The kept bytes of each packet, and whether it was cut when it was caught.
abbrev pub kept_of : List Record → List (List ℕ)
kept_of packets = map (λ (one : Record). one.0) packets

abbrev pub cut_of : List Record → List Bool
cut_of packets = map (λ (one : Record). one.1) packets

abbrev pub held : Bool → List Record → Pcap
held check packets = record { check = check; packets = kept_of packets; cut = cut_of packets }

abbrev pub held_packets : Bool → Result (List Record) PcapError → Result Pcap PcapError
held_packets check (Err e) = Err e
held_packets check (Ok packets) = Ok (held check packets)

abbrev pub held_form : List ℕ → Result Form PcapCause → Result Pcap PcapError
held_form bytes (Err cause) = Err (fault_at 0 cause)
held_form bytes (Ok form) = held_packets form.check (records most_frames 1 form.order (drop file_header_size bytes))

-- What a capture file holds, or its first fault. At most 100,000 records are read.
unfoldable pub pcap_in : List ℕ → Result Pcap PcapError
pcap_in bytes = held_form bytes (header_of bytes)
