use Rattle.std.proofs.Common.{◌≡◌, ◌+◌, ◌-◌, ◌≤◌, length, map}
use Rattle.zb_pcap.specs.Extracts.{record_in}
use Rattle.zb_pcap.specs.Files.{records}
use Rattle.zb_pcap.proofs.Records.{prepended}
use Rattle.zb_pcap.proofs.packets.read_packets.Given as goal

abbrev pub invariant-loop-rest : goal.invariant-loop-rest
invariant-loop-rest l = record {
  so_far : prepended (map record_in l.packets.items)
      (records (100000 - length l.packets.items) l.place l.order l.rest) ≡ records 100000 1 l.order l.bytes;
  place : l.place ≡ 1 + length l.packets.items;
  few : length l.packets.items ≤ 100000;
}

abbrev pub decreases-loop-rest : goal.decreases-loop-rest
decreases-loop-rest l = length l.rest
