use Rattle.std.proofs.Common.{◌≡◌, map, take}
use Rattle.zb_pcap.specs.Extracts.{record_in}
use Rattle.zb_pcap.specs.Packets.{kept_of}
use Rattle.zb_pcap.proofs.pcap.copies.Given as goal

abbrev pub invariant-loop-packet : goal.invariant-loop-packet
invariant-loop-packet l = l.copies.items ≡ kept_of (map record_in (take l.packet-index l.packets))
